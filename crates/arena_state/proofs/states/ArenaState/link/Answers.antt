use Rattle.std.proofs.Common.{refl, ap, ◌∙◌, length, ◌+◌, true, false, ◌++◌, ◌∷◌, []}
use Rattle.std.specs.Ordering.{nat_cmp}
use Rattle.std.specs.Map.{lookup}
use Rattle.std.specs.BTreeMap.{is_at}
use Rattle.base.specs.declared.kinds.Kind.TheVariants as kinds
use Rattle.containers.specs.Tree.{add_lists}
use Rattle.containers.proofs.Lists.{ids_added}
use Rattle.kernel_rules.specs.Changes.{listing}
use Rattle.std.specs.Vec.{with_item}
use Rattle.arena_state.specs.declared.pieces.Pieces.{Pieces}
use Rattle.arena_state.proofs.LinkedLaws.{not_linked, not_root, link_left, no_object, no_container, enough, sound_then, state_then}
use Rattle.arena_state.specs.declared.records.Record.{Record}
use Rattle.arena_state.specs.Rows.{rows_of, row_slot}
use Rattle.arena_state.specs.Assembled.{body_use}
use Rattle.arena_state.specs.Stocked.{kept_pages, keeps_space}
use Rattle.arena_state.proofs.SoundLaws.{slot_within}
use Rattle.arena_state.proofs.ShownLaws.{linked_slots}
use Rattle.arena_state.proofs.EditLaws.{read_is}
use Rattle.arena_state.proofs.HeldLaws.{held_stocked, held_state, read_set, slots_by_ids}
use Rattle.arena_state.proofs.WholeEditLaws.{relisting_apart, reuse_pages, reuse_space}
use Rattle.arena_state.proofs.WholeLaws.{kind_bare, holds_bare, fixed_bare, listed_bare, linked_bare, none_bare}
use Rattle.arena_state.proofs.states.ArenaState.link.Goals as goal

pub link_found-requires-clause-container : goal.link_found-requires-clause-container
link_found-requires-clause-container c = c.in-Some.ensures.found.has

pub link_found-requires-clause-object : goal.link_found-requires-clause-object
link_found-requires-clause-object c = c.in-Some-told.ensures.found.has

pub link_found-requires-clause-not_root : goal.link_found-requires-clause-not_root
link_found-requires-clause-not_root c = not_root c.args.self.now.pieces c.args.self.now.sound c.args.target.id (record { container = c.args.container.id; object = c.args.object.id }) (kind_bare c.args.self.now.pieces kinds.Container c.args.target.id true c.requires.container) (holds_bare c.args.self.now.pieces (record { container = c.args.container.id; object = c.args.object.id }) c.requires.held) (kind_bare c.args.self.now.pieces kinds.Container c.args.object.id false c.requires.plain) (fixed_bare c.args.self.now.pieces c.args.object.id true c.requires.fixed) (listed_bare c.args.self.now.pieces c.args.target.id c.args.object.id false c.requires.unlisted) (linked_bare c.args.self.now.pieces c.args.self.now.sound c.args.self.now.stocked c.args.target.id c.args.object.id c.requires.room)

pub link_found-requires-clause-fresh : goal.link_found-requires-clause-fresh
link_found-requires-clause-fresh c = not_linked c.args.self.now.pieces c.args.self.now.sound c.args.target.id (record { container = c.args.container.id; object = c.args.object.id }) (kind_bare c.args.self.now.pieces kinds.Container c.args.target.id true c.requires.container) (holds_bare c.args.self.now.pieces (record { container = c.args.container.id; object = c.args.object.id }) c.requires.held) (kind_bare c.args.self.now.pieces kinds.Container c.args.object.id false c.requires.plain) (fixed_bare c.args.self.now.pieces c.args.object.id true c.requires.fixed) (listed_bare c.args.self.now.pieces c.args.target.id c.args.object.id false c.requires.unlisted) (linked_bare c.args.self.now.pieces c.args.self.now.sound c.args.self.now.stocked c.args.target.id c.args.object.id c.requires.room)

pub link_found-requires-clause-room : goal.link_found-requires-clause-room
link_found-requires-clause-room c = link_left c.args.self.now.pieces c.args.self.now.sound c.args.target.id (record { container = c.args.container.id; object = c.args.object.id }) (kind_bare c.args.self.now.pieces kinds.Container c.args.target.id true c.requires.container) (holds_bare c.args.self.now.pieces (record { container = c.args.container.id; object = c.args.object.id }) c.requires.held) (kind_bare c.args.self.now.pieces kinds.Container c.args.object.id false c.requires.plain) (fixed_bare c.args.self.now.pieces c.args.object.id true c.requires.fixed) (listed_bare c.args.self.now.pieces c.args.target.id c.args.object.id false c.requires.unlisted) (linked_bare c.args.self.now.pieces c.args.self.now.sound c.args.self.now.stocked c.args.target.id c.args.object.id c.requires.room)

pub charge-requires : goal.charge-requires
charge-requires c = enough c.args.self.now.pieces c.args.self.now.sound c.args.target.id (record { container = c.args.container.id; object = c.args.object.id }) (kind_bare c.args.self.now.pieces kinds.Container c.args.target.id true c.requires.container) (holds_bare c.args.self.now.pieces (record { container = c.args.container.id; object = c.args.object.id }) c.requires.held) (kind_bare c.args.self.now.pieces kinds.Container c.args.object.id false c.requires.plain) (fixed_bare c.args.self.now.pieces c.args.object.id true c.requires.fixed) (listed_bare c.args.self.now.pieces c.args.target.id c.args.object.id false c.requires.unlisted) (linked_bare c.args.self.now.pieces c.args.self.now.sound c.args.self.now.stocked c.args.target.id c.args.object.id c.requires.room)
    c.in-Some.parent.0 c.in-Some-told.linked.0 c.in-Some.ensures.found.has c.in-Some-told.ensures.found.has
    c.index.result.now c.index_mut-charged.result.now c.index.ensures c.index_mut-charged.ensures.value

pub unreachable-requires : goal.unreachable-requires
unreachable-requires c = no_object c.args.self.now.pieces c.args.self.now.sound c.args.target.id (record { container = c.args.container.id; object = c.args.object.id }) (kind_bare c.args.self.now.pieces kinds.Container c.args.target.id true c.requires.container) (holds_bare c.args.self.now.pieces (record { container = c.args.container.id; object = c.args.object.id }) c.requires.held) (kind_bare c.args.self.now.pieces kinds.Container c.args.object.id false c.requires.plain) (fixed_bare c.args.self.now.pieces c.args.object.id true c.requires.fixed) (listed_bare c.args.self.now.pieces c.args.target.id c.args.object.id false c.requires.unlisted) (linked_bare c.args.self.now.pieces c.args.self.now.sound c.args.self.now.stocked c.args.target.id c.args.object.id c.requires.room) (none_bare c.args.self.now.pieces c.args.object.id c.in-None-told.ensures.none)

pub unreachable-requires-in-None : goal.unreachable-requires-in-None
unreachable-requires-in-None c = no_container c.args.self.now.pieces c.args.self.now.sound c.args.target.id (record { container = c.args.container.id; object = c.args.object.id }) (kind_bare c.args.self.now.pieces kinds.Container c.args.target.id true c.requires.container) (holds_bare c.args.self.now.pieces (record { container = c.args.container.id; object = c.args.object.id }) c.requires.held) (kind_bare c.args.self.now.pieces kinds.Container c.args.object.id false c.requires.plain) (fixed_bare c.args.self.now.pieces c.args.object.id true c.requires.fixed) (listed_bare c.args.self.now.pieces c.args.target.id c.args.object.id false c.requires.unlisted) (linked_bare c.args.self.now.pieces c.args.self.now.sound c.args.self.now.stocked c.args.target.id c.args.object.id c.requires.room) (none_bare c.args.self.now.pieces c.args.target.id c.in-None.ensures.none)

pub invariant_of-self : goal.invariant_of-self
invariant_of-self c = record {
  sound = sound_then c.args.self.now.pieces c.args.self.now.sound c.args.target.id (record { container = c.args.container.id; object = c.args.object.id }) (kind_bare c.args.self.now.pieces kinds.Container c.args.target.id true c.requires.container) (holds_bare c.args.self.now.pieces (record { container = c.args.container.id; object = c.args.object.id }) c.requires.held) (kind_bare c.args.self.now.pieces kinds.Container c.args.object.id false c.requires.plain) (fixed_bare c.args.self.now.pieces c.args.object.id true c.requires.fixed) (listed_bare c.args.self.now.pieces c.args.target.id c.args.object.id false c.requires.unlisted) (linked_bare c.args.self.now.pieces c.args.self.now.sound c.args.self.now.stocked c.args.target.id c.args.object.id c.requires.room)
      c.in-Some.parent.0 c.in-Some-told.linked.0 c.in-Some.ensures.found.has c.in-Some-told.ensures.found.has
      c.index.result.now c.index_mut-charged.result.now c.index.ensures c.index_mut-charged.ensures.value
      _ refl refl refl (λ i. (c.link_found.ensures.linked i).lists) (λ i. (c.link_found.ensures.linked i).slots) (ap (λ t. length t.cells) c.link_found.ensures.linked) c.len-count.ensures.well_formed refl c.charge.new.given c.charge.ensures refl;
  stocked =
      let q : Pieces = record c.args.self.now.pieces {
        places = c.link_found.new.self;
        holdings = record c.args.self.now.pieces.holdings {
          records = with_item c.args.self.now.pieces.holdings.records c.in-Some.parent.0 c.charge.new.given;
        };
      } in
      held_stocked c.args.self.now.pieces q (record {
        limits = refl;
        segments = refl;
        queues = refl;
        spaces = refl;
        slots = λ i. (c.link_found.ensures.linked i).slots;
        ids = λ id. (λ i. row_slot (lookup (is_at (nat_cmp id)) (rows_of (c.link_found.ensures.linked i).lists (c.link_found.ensures.linked i).slots)))
            ∙ slots_by_ids c.args.self.now.pieces.places.lists (add_lists c.args.self.now.pieces.places.lists c.args.target.id c.args.object.id) c.args.self.now.pieces.places.slots
            (ids_added c.args.self.now.pieces.places.lists c.args.target.id c.args.object.id) id;
        pages = read_set kept_pages c.args.self.now.pieces.holdings.records.items c.in-Some.parent.0 c.charge.new.given
            (slot_within c.args.self.now.pieces c.args.self.now.sound c.args.target.id c.in-Some.parent.0 c.in-Some.ensures.found.has)
            (ap (λ (r : Record). kept_pages r.body) c.charge.ensures ∙ reuse_pages (body_use c.index_mut-charged.result.now.body + c.index.result.now.quota) c.index_mut-charged.result.now.body
            ∙ ap (λ (r : Record). kept_pages r.body) (read_is c.args.self.now.pieces c.args.self.now.sound c.args.target.id c.in-Some.parent.0 c.in-Some.ensures.found.has c.index_mut-charged.result.now c.index_mut-charged.ensures.value));
        space = read_set keeps_space c.args.self.now.pieces.holdings.records.items c.in-Some.parent.0 c.charge.new.given
            (slot_within c.args.self.now.pieces c.args.self.now.sound c.args.target.id c.in-Some.parent.0 c.in-Some.ensures.found.has)
            (ap (λ (r : Record). keeps_space r.body) c.charge.ensures ∙ reuse_space (body_use c.index_mut-charged.result.now.body + c.index.result.now.quota) c.index_mut-charged.result.now.body
            ∙ ap (λ (r : Record). keeps_space r.body) (read_is c.args.self.now.pieces c.args.self.now.sound c.args.target.id c.in-Some.parent.0 c.in-Some.ensures.found.has c.index_mut-charged.result.now c.index_mut-charged.ensures.value));
      }) c.args.self.now.stocked;
}

pub returns-clause-slots : goal.returns-clause-slots
returns-clause-slots c = λ id slot h.
    linked_slots c.args.self.now.pieces.places c.link_found.new.self c.args.target.id c.args.object.id c.link_found.ensures.linked id slot h

pub returns-clause-state : goal.returns-clause-state
returns-clause-state c =
    let q : Pieces = record c.args.self.now.pieces {
      places = c.link_found.new.self;
      holdings = record c.args.self.now.pieces.holdings {
        records = with_item c.args.self.now.pieces.holdings.records c.in-Some.parent.0 c.charge.new.given;
      };
    } in
    held_state c.args.self.now.pieces q (record {
      limits = refl;
      segments = refl;
      queues = refl;
      spaces = refl;
      slots = λ i. (c.link_found.ensures.linked i).slots;
      ids = λ id. (λ i. row_slot (lookup (is_at (nat_cmp id)) (rows_of (c.link_found.ensures.linked i).lists (c.link_found.ensures.linked i).slots)))
          ∙ slots_by_ids c.args.self.now.pieces.places.lists (add_lists c.args.self.now.pieces.places.lists c.args.target.id c.args.object.id) c.args.self.now.pieces.places.slots
          (ids_added c.args.self.now.pieces.places.lists c.args.target.id c.args.object.id) id;
      pages = read_set kept_pages c.args.self.now.pieces.holdings.records.items c.in-Some.parent.0 c.charge.new.given
          (slot_within c.args.self.now.pieces c.args.self.now.sound c.args.target.id c.in-Some.parent.0 c.in-Some.ensures.found.has)
          (ap (λ (r : Record). kept_pages r.body) c.charge.ensures ∙ reuse_pages (body_use c.index_mut-charged.result.now.body + c.index.result.now.quota) c.index_mut-charged.result.now.body
          ∙ ap (λ (r : Record). kept_pages r.body) (read_is c.args.self.now.pieces c.args.self.now.sound c.args.target.id c.in-Some.parent.0 c.in-Some.ensures.found.has c.index_mut-charged.result.now c.index_mut-charged.ensures.value));
      space = read_set keeps_space c.args.self.now.pieces.holdings.records.items c.in-Some.parent.0 c.charge.new.given
          (slot_within c.args.self.now.pieces c.args.self.now.sound c.args.target.id c.in-Some.parent.0 c.in-Some.ensures.found.has)
          (ap (λ (r : Record). keeps_space r.body) c.charge.ensures ∙ reuse_space (body_use c.index_mut-charged.result.now.body + c.index.result.now.quota) c.index_mut-charged.result.now.body
          ∙ ap (λ (r : Record). keeps_space r.body) (read_is c.args.self.now.pieces c.args.self.now.sound c.args.target.id c.in-Some.parent.0 c.in-Some.ensures.found.has c.index_mut-charged.result.now c.index_mut-charged.ensures.value));
    })
    c.args.self.now.sound c.args.target.id (listing c.args.object.id) (relisting_apart (λ ids. ids ++ c.args.object.id ∷ []))
    (state_then c.args.self.now.pieces c.args.self.now.sound c.args.target.id (record { container = c.args.container.id; object = c.args.object.id }) (kind_bare c.args.self.now.pieces kinds.Container c.args.target.id true c.requires.container) (holds_bare c.args.self.now.pieces (record { container = c.args.container.id; object = c.args.object.id }) c.requires.held) (kind_bare c.args.self.now.pieces kinds.Container c.args.object.id false c.requires.plain) (fixed_bare c.args.self.now.pieces c.args.object.id true c.requires.fixed) (listed_bare c.args.self.now.pieces c.args.target.id c.args.object.id false c.requires.unlisted) (linked_bare c.args.self.now.pieces c.args.self.now.sound c.args.self.now.stocked c.args.target.id c.args.object.id c.requires.room)
    c.in-Some.parent.0 c.in-Some-told.linked.0 c.in-Some.ensures.found.has c.in-Some-told.ensures.found.has
    c.index.result.now c.index_mut-charged.result.now c.index.ensures c.index_mut-charged.ensures.value
    q refl refl refl (λ i. (c.link_found.ensures.linked i).lists) (λ i. (c.link_found.ensures.linked i).slots) (ap (λ t. length t.cells) c.link_found.ensures.linked) c.len-count.ensures.well_formed refl c.charge.new.given c.charge.ensures refl)
