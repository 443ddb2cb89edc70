use Rattle.std.proofs.Common.{refl, ap, arith}
use Rattle.kernel_rules.specs.Changes.{labelled}
use Rattle.arena_state.specs.declared.records.Record.{Record}
use Rattle.arena_state.proofs.EditLaws.{read_is}
use Rattle.arena_state.proofs.RoomLaws.{labels_free}
use Rattle.arena_state.proofs.BindLaws.{labelled_sound, labelled_state}
use Rattle.arena_state.specs.Stocked.{kept_pages, keeps_space}
use Rattle.arena_state.proofs.RebindLaws.{with_both}
use Rattle.arena_state.proofs.HeldLaws.{held_stocked, held_state}
use Rattle.arena_state.proofs.WholeEditLaws.{rebound_held}
use Rattle.arena_state.proofs.states.ArenaState.set_label.Goals as goal

pub intern-new-requires : goal.intern-new-requires
intern-new-requires c = omega (arith, labels_free c.args.self.now.pieces c.args.self.now.sound)

pub invariant_of-self : goal.invariant_of-self
invariant_of-self c =
    let row = c.in-Some.ensures.found.has in
    let read = read_is c.args.self.now.pieces c.args.self.now.sound c.args.id c.in-Some.slot.0 row in
    record {
      sound = labelled_sound c.args.self.now.pieces c.args.self.now.sound c.args.id c.in-Some.slot.0 row c.intern-new.result.0
          c.index.result.now.label.0 c.args.label.now c.requires c.intern-new.new.self c.let_go.new.self c.intern-new.ensures.takes
          c.intern-new.ensures.given (ap (λ (r : Record). r.label.0) (read c.index.result.now c.index.ensures)) c.let_go.ensures.lets
          c.index_mut.result.now (read c.index_mut.result.now c.index_mut.ensures.value);
      stocked = held_stocked c.args.self.now.pieces
          (with_both c.args.self.now.pieces c.in-Some.slot.0 (record c.index_mut.result.now { label = c.intern-new.result }) c.let_go.new.self)
          (rebound_held c.args.self.now.pieces c.args.self.now.sound c.args.id c.in-Some.slot.0 row
          (record c.index_mut.result.now { label = c.intern-new.result }) c.let_go.new.self
          (ap (λ (r : Record). kept_pages r.body) (read c.index_mut.result.now c.index_mut.ensures.value))
          (ap (λ (r : Record). keeps_space r.body) (read c.index_mut.result.now c.index_mut.ensures.value)))
          c.args.self.now.stocked;
    }

pub returns-in-Some-clause-state : goal.returns-in-Some-clause-state
returns-in-Some-clause-state c =
    let row = c.in-Some.ensures.found.has in
    let read = read_is c.args.self.now.pieces c.args.self.now.sound c.args.id c.in-Some.slot.0 row in
    held_state c.args.self.now.pieces
    (with_both c.args.self.now.pieces c.in-Some.slot.0 (record c.index_mut.result.now { label = c.intern-new.result }) c.let_go.new.self)
    (rebound_held c.args.self.now.pieces c.args.self.now.sound c.args.id c.in-Some.slot.0 row
    (record c.index_mut.result.now { label = c.intern-new.result }) c.let_go.new.self
    (ap (λ (r : Record). kept_pages r.body) (read c.index_mut.result.now c.index_mut.ensures.value))
    (ap (λ (r : Record). keeps_space r.body) (read c.index_mut.result.now c.index_mut.ensures.value)))
    c.args.self.now.sound c.args.id (labelled c.args.label.now) (λ o x. refl)
    (labelled_state c.args.self.now.pieces c.args.self.now.sound c.args.id c.in-Some.slot.0 row c.intern-new.result.0
    c.index.result.now.label.0 c.args.label.now c.requires c.intern-new.new.self c.let_go.new.self c.intern-new.ensures.takes
    c.intern-new.ensures.given (ap (λ (r : Record). r.label.0) (read c.index.result.now c.index.ensures)) c.let_go.ensures.lets
    c.index_mut.result.now (read c.index_mut.result.now c.index_mut.ensures.value))
