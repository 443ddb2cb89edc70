use Rattle.std.proofs.Common.{refl, true, false}
use Rattle.std.specs.Vec.{with_item}
use Rattle.kernel_rules.specs.Changes.{requoted}
use Rattle.arena_state.specs.declared.pieces.Pieces.{Pieces}
use Rattle.arena_state.specs.Stocked.{kept_pages, keeps_space}
use Rattle.arena_state.proofs.SoundLaws.{slot_within}
use Rattle.arena_state.proofs.EditLaws.{read_is}
use Rattle.arena_state.proofs.HeldLaws.{held_stocked, held_state}
use Rattle.arena_state.proofs.WholeEditLaws.{reuse_pages, reuse_space, moved_read}
use Rattle.arena_state.proofs.WholeLaws.{fixed_bare, listed_bare, used_bare, none_bare}
use Rattle.arena_state.proofs.MovedLaws.{no_object, no_container, quota_fits, quota_enough, charge_fits, charge_enough, sound_then, state_then}
use Rattle.arena_state.proofs.states.ArenaState.quota_move.Goals as goal

pub requote-requires-clause-fits : goal.requote-requires-clause-fits
requote-requires-clause-fits c = quota_fits c.args.self.now.pieces c.args.self.now.sound (record { container = c.args.container.id; object = c.args.object.id }) c.args.up c.args.down (listed_bare c.args.self.now.pieces c.args.container.id c.args.object.id true c.requires.listed) (fixed_bare c.args.self.now.pieces c.args.object.id false c.requires.loose) (used_bare c.args.self.now.pieces c.args.self.now.sound c.args.self.now.stocked c.args.container.id c.args.up c.requires.room) (used_bare c.args.self.now.pieces c.args.self.now.sound c.args.self.now.stocked c.args.object.id c.args.down c.requires.free)
    c.in-Some.parent.0 c.in-Some-told.moved.0 c.in-Some.ensures.found.has c.in-Some-told.ensures.found.has
    c.index.result.now c.index_mut.result.now c.index.ensures c.index_mut.ensures.value

pub requote-requires-clause-enough : goal.requote-requires-clause-enough
requote-requires-clause-enough c = quota_enough c.args.self.now.pieces c.args.self.now.sound (record { container = c.args.container.id; object = c.args.object.id }) c.args.up c.args.down (listed_bare c.args.self.now.pieces c.args.container.id c.args.object.id true c.requires.listed) (fixed_bare c.args.self.now.pieces c.args.object.id false c.requires.loose) (used_bare c.args.self.now.pieces c.args.self.now.sound c.args.self.now.stocked c.args.container.id c.args.up c.requires.room) (used_bare c.args.self.now.pieces c.args.self.now.sound c.args.self.now.stocked c.args.object.id c.args.down c.requires.free)
    c.in-Some.parent.0 c.in-Some-told.moved.0 c.in-Some.ensures.found.has c.in-Some-told.ensures.found.has
    c.index.result.now c.index_mut.result.now c.index.ensures c.index_mut.ensures.value

pub charge-requires : goal.charge-requires
charge-requires c = charge_fits c.args.self.now.pieces c.args.self.now.sound (record { container = c.args.container.id; object = c.args.object.id }) c.args.up c.args.down (listed_bare c.args.self.now.pieces c.args.container.id c.args.object.id true c.requires.listed) (fixed_bare c.args.self.now.pieces c.args.object.id false c.requires.loose) (used_bare c.args.self.now.pieces c.args.self.now.sound c.args.self.now.stocked c.args.container.id c.args.up c.requires.room) (used_bare c.args.self.now.pieces c.args.self.now.sound c.args.self.now.stocked c.args.object.id c.args.down c.requires.free)
    c.in-Some.parent.0 c.in-Some-told.moved.0 c.in-Some.ensures.found.has c.in-Some-told.ensures.found.has
    c.index.result.now c.index_mut.result.now c.index.ensures c.index_mut.ensures.value
    c.requote.new.given c.requote.ensures c.index_mut-charged.result.now c.index_mut-charged.ensures.value

pub discharge-requires : goal.discharge-requires
discharge-requires c = charge_enough c.args.self.now.pieces c.args.self.now.sound (record { container = c.args.container.id; object = c.args.object.id }) c.args.up c.args.down (listed_bare c.args.self.now.pieces c.args.container.id c.args.object.id true c.requires.listed) (fixed_bare c.args.self.now.pieces c.args.object.id false c.requires.loose) (used_bare c.args.self.now.pieces c.args.self.now.sound c.args.self.now.stocked c.args.container.id c.args.up c.requires.room) (used_bare c.args.self.now.pieces c.args.self.now.sound c.args.self.now.stocked c.args.object.id c.args.down c.requires.free)
    c.in-Some.parent.0 c.in-Some-told.moved.0 c.in-Some.ensures.found.has c.in-Some-told.ensures.found.has
    c.index.result.now c.index_mut.result.now c.index.ensures c.index_mut.ensures.value
    c.requote.new.given c.requote.ensures c.index_mut-charged.result.now c.index_mut-charged.ensures.value
    c.charge.new.given c.charge.ensures

pub unreachable-requires : goal.unreachable-requires
unreachable-requires c = no_object c.args.self.now.pieces c.args.self.now.sound (record { container = c.args.container.id; object = c.args.object.id }) c.args.up c.args.down (listed_bare c.args.self.now.pieces c.args.container.id c.args.object.id true c.requires.listed) (fixed_bare c.args.self.now.pieces c.args.object.id false c.requires.loose) (used_bare c.args.self.now.pieces c.args.self.now.sound c.args.self.now.stocked c.args.container.id c.args.up c.requires.room) (used_bare c.args.self.now.pieces c.args.self.now.sound c.args.self.now.stocked c.args.object.id c.args.down c.requires.free) (none_bare c.args.self.now.pieces c.args.object.id c.in-None-told.ensures.none)

pub unreachable-requires-in-None : goal.unreachable-requires-in-None
unreachable-requires-in-None c = no_container c.args.self.now.pieces c.args.self.now.sound (record { container = c.args.container.id; object = c.args.object.id }) c.args.up c.args.down (listed_bare c.args.self.now.pieces c.args.container.id c.args.object.id true c.requires.listed) (fixed_bare c.args.self.now.pieces c.args.object.id false c.requires.loose) (used_bare c.args.self.now.pieces c.args.self.now.sound c.args.self.now.stocked c.args.container.id c.args.up c.requires.room) (used_bare c.args.self.now.pieces c.args.self.now.sound c.args.self.now.stocked c.args.object.id c.args.down c.requires.free) (none_bare c.args.self.now.pieces c.args.container.id c.in-None.ensures.none)

pub invariant_of-self : goal.invariant_of-self
invariant_of-self c = record {
  sound = sound_then c.args.self.now.pieces c.args.self.now.sound (record { container = c.args.container.id; object = c.args.object.id }) c.args.up c.args.down (listed_bare c.args.self.now.pieces c.args.container.id c.args.object.id true c.requires.listed) (fixed_bare c.args.self.now.pieces c.args.object.id false c.requires.loose) (used_bare c.args.self.now.pieces c.args.self.now.sound c.args.self.now.stocked c.args.container.id c.args.up c.requires.room) (used_bare c.args.self.now.pieces c.args.self.now.sound c.args.self.now.stocked c.args.object.id c.args.down c.requires.free)
      c.in-Some.parent.0 c.in-Some-told.moved.0 c.in-Some.ensures.found.has c.in-Some-told.ensures.found.has
      c.index.result.now c.index_mut.result.now c.index.ensures c.index_mut.ensures.value
      c.requote.new.given c.requote.ensures c.index_mut-charged.result.now c.index_mut-charged.ensures.value
      c.charge.new.given c.charge.ensures
      c.discharge.new.given c.discharge.ensures;
  stocked =
      let q : Pieces = record c.args.self.now.pieces {
        holdings = record c.args.self.now.pieces.holdings {
          records = with_item (with_item c.args.self.now.pieces.holdings.records c.in-Some-told.moved.0 c.requote.new.given) c.in-Some.parent.0 c.discharge.new.given;
        };
      } in
      held_stocked c.args.self.now.pieces q (record {
        limits = refl;
        segments = refl;
        queues = refl;
        spaces = refl;
        slots = refl;
        ids = λ id. refl;
        pages = moved_read kept_pages reuse_pages c.args.self.now.pieces.holdings.records.items c.in-Some-told.moved.0 c.in-Some.parent.0
            (slot_within c.args.self.now.pieces c.args.self.now.sound c.args.object.id c.in-Some-told.moved.0 c.in-Some-told.ensures.found.has) (slot_within c.args.self.now.pieces c.args.self.now.sound c.args.container.id c.in-Some.parent.0 c.in-Some.ensures.found.has)
            c.index_mut.result.now c.requote.new.given c.index_mut-charged.result.now c.charge.new.given c.discharge.new.given
            (read_is c.args.self.now.pieces c.args.self.now.sound c.args.object.id c.in-Some-told.moved.0 c.in-Some-told.ensures.found.has c.index_mut.result.now c.index_mut.ensures.value) _ c.requote.ensures c.index_mut-charged.ensures.value
            _ c.charge.ensures _ c.discharge.ensures;
        space = moved_read keeps_space reuse_space c.args.self.now.pieces.holdings.records.items c.in-Some-told.moved.0 c.in-Some.parent.0
            (slot_within c.args.self.now.pieces c.args.self.now.sound c.args.object.id c.in-Some-told.moved.0 c.in-Some-told.ensures.found.has) (slot_within c.args.self.now.pieces c.args.self.now.sound c.args.container.id c.in-Some.parent.0 c.in-Some.ensures.found.has)
            c.index_mut.result.now c.requote.new.given c.index_mut-charged.result.now c.charge.new.given c.discharge.new.given
            (read_is c.args.self.now.pieces c.args.self.now.sound c.args.object.id c.in-Some-told.moved.0 c.in-Some-told.ensures.found.has c.index_mut.result.now c.index_mut.ensures.value) _ c.requote.ensures c.index_mut-charged.ensures.value
            _ c.charge.ensures _ c.discharge.ensures;
      }) c.args.self.now.stocked;
}

pub returns-clause-state : goal.returns-clause-state
returns-clause-state c =
    let q : Pieces = record c.args.self.now.pieces {
      holdings = record c.args.self.now.pieces.holdings {
        records = with_item (with_item c.args.self.now.pieces.holdings.records c.in-Some-told.moved.0 c.requote.new.given) c.in-Some.parent.0 c.discharge.new.given;
      };
    } in
    held_state c.args.self.now.pieces q (record {
      limits = refl;
      segments = refl;
      queues = refl;
      spaces = refl;
      slots = refl;
      ids = λ id. refl;
      pages = moved_read kept_pages reuse_pages c.args.self.now.pieces.holdings.records.items c.in-Some-told.moved.0 c.in-Some.parent.0
          (slot_within c.args.self.now.pieces c.args.self.now.sound c.args.object.id c.in-Some-told.moved.0 c.in-Some-told.ensures.found.has) (slot_within c.args.self.now.pieces c.args.self.now.sound c.args.container.id c.in-Some.parent.0 c.in-Some.ensures.found.has)
          c.index_mut.result.now c.requote.new.given c.index_mut-charged.result.now c.charge.new.given c.discharge.new.given
          (read_is c.args.self.now.pieces c.args.self.now.sound c.args.object.id c.in-Some-told.moved.0 c.in-Some-told.ensures.found.has c.index_mut.result.now c.index_mut.ensures.value) _ c.requote.ensures c.index_mut-charged.ensures.value
          _ c.charge.ensures _ c.discharge.ensures;
      space = moved_read keeps_space reuse_space c.args.self.now.pieces.holdings.records.items c.in-Some-told.moved.0 c.in-Some.parent.0
          (slot_within c.args.self.now.pieces c.args.self.now.sound c.args.object.id c.in-Some-told.moved.0 c.in-Some-told.ensures.found.has) (slot_within c.args.self.now.pieces c.args.self.now.sound c.args.container.id c.in-Some.parent.0 c.in-Some.ensures.found.has)
          c.index_mut.result.now c.requote.new.given c.index_mut-charged.result.now c.charge.new.given c.discharge.new.given
          (read_is c.args.self.now.pieces c.args.self.now.sound c.args.object.id c.in-Some-told.moved.0 c.in-Some-told.ensures.found.has c.index_mut.result.now c.index_mut.ensures.value) _ c.requote.ensures c.index_mut-charged.ensures.value
          _ c.charge.ensures _ c.discharge.ensures;
    })
    c.args.self.now.sound c.args.object.id (requoted c.args.up c.args.down) (λ o x. refl)
    (state_then c.args.self.now.pieces c.args.self.now.sound (record { container = c.args.container.id; object = c.args.object.id }) c.args.up c.args.down (listed_bare c.args.self.now.pieces c.args.container.id c.args.object.id true c.requires.listed) (fixed_bare c.args.self.now.pieces c.args.object.id false c.requires.loose) (used_bare c.args.self.now.pieces c.args.self.now.sound c.args.self.now.stocked c.args.container.id c.args.up c.requires.room) (used_bare c.args.self.now.pieces c.args.self.now.sound c.args.self.now.stocked c.args.object.id c.args.down c.requires.free)
    c.in-Some.parent.0 c.in-Some-told.moved.0 c.in-Some.ensures.found.has c.in-Some-told.ensures.found.has
    c.index.result.now c.index_mut.result.now c.index.ensures c.index_mut.ensures.value
    c.requote.new.given c.requote.ensures c.index_mut-charged.result.now c.index_mut-charged.ensures.value
    c.charge.new.given c.charge.ensures
    c.discharge.new.given c.discharge.ensures)
