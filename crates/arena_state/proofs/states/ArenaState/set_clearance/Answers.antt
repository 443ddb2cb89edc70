use Rattle.std.proofs.Common.{◌≡◌, sym, ◌∙◌, ap, subst, arith}
use Rattle.kernel_rules.specs.Changes.{changed, cleared}
use Rattle.arena_state.specs.declared.records.Record.{Record}
use Rattle.arena_state.specs.Assembled.{pieces_state}
use Rattle.arena_state.specs.Sound.{IsSound}
use Rattle.arena_state.proofs.EditLaws.{read_is}
use Rattle.arena_state.proofs.RoomLaws.{labels_free}
use Rattle.arena_state.proofs.RebindLaws.{with_both}
use Rattle.arena_state.proofs.ClearLaws.{cleared_sound, cleared_state, uncleared_state}
use Rattle.arena_state.specs.Stocked.{kept_pages, keeps_space}
use Rattle.arena_state.proofs.HeldLaws.{held_stocked, held_state, held_same}
use Rattle.arena_state.proofs.WholeEditLaws.{rebound_held, recleared_pages, recleared_space, cleared_apart}
use Rattle.arena_state.proofs.states.ArenaState.set_clearance.Goals as goal

pub intern-new-requires : goal.intern-new-requires
intern-new-requires c = omega (arith, labels_free c.args.self.now.pieces c.args.self.now.sound)

pub invariant_of-self : goal.invariant_of-self
invariant_of-self c = record {
  sound = subst (λ (r : Record). IsSound (with_both c.args.self.now.pieces c.in-Some.slot.0 r c.let_go.new.self)) (sym c.reclear.ensures)
      (cleared_sound c.args.self.now.pieces c.args.self.now.sound c.args.thread c.in-Some.slot.0 c.in-Some.ensures.found.has
      c.intern-new.result.0 c.args.clearance.now c.requires c.intern-new.new.self c.let_go.new.self c.intern-new.ensures.takes
      c.intern-new.ensures.given c.in-Thread.kept
      (sym (ap (λ (r : Record). r.body) (read_is c.args.self.now.pieces c.args.self.now.sound c.args.thread c.in-Some.slot.0 c.in-Some.ensures.found.has c.index.result.now c.index.ensures)) ∙ c.in-Thread.is)
      c.let_go.ensures.lets c.index_mut.result.now
      (read_is c.args.self.now.pieces c.args.self.now.sound c.args.thread c.in-Some.slot.0 c.in-Some.ensures.found.has c.index_mut.result.now c.index_mut.ensures.value));
  stocked = held_stocked c.args.self.now.pieces (with_both c.args.self.now.pieces c.in-Some.slot.0 c.reclear.new.given c.let_go.new.self)
      (rebound_held c.args.self.now.pieces c.args.self.now.sound c.args.thread c.in-Some.slot.0 c.in-Some.ensures.found.has
      c.reclear.new.given c.let_go.new.self
      (ap (λ (r : Record). kept_pages r.body) c.reclear.ensures ∙ recleared_pages c.intern-new.result.0 c.index_mut.result.now.body
      ∙ ap (λ (r : Record). kept_pages r.body) (read_is c.args.self.now.pieces c.args.self.now.sound c.args.thread c.in-Some.slot.0 c.in-Some.ensures.found.has c.index_mut.result.now c.index_mut.ensures.value))
      (ap (λ (r : Record). keeps_space r.body) c.reclear.ensures ∙ recleared_space c.intern-new.result.0 c.index_mut.result.now.body
      ∙ ap (λ (r : Record). keeps_space r.body) (read_is c.args.self.now.pieces c.args.self.now.sound c.args.thread c.in-Some.slot.0 c.in-Some.ensures.found.has c.index_mut.result.now c.index_mut.ensures.value)))
      c.args.self.now.stocked;
}

pub returns-in-Thread-clause-state : goal.returns-in-Thread-clause-state
returns-in-Thread-clause-state c =
    held_state c.args.self.now.pieces (with_both c.args.self.now.pieces c.in-Some.slot.0 c.reclear.new.given c.let_go.new.self)
    (rebound_held c.args.self.now.pieces c.args.self.now.sound c.args.thread c.in-Some.slot.0 c.in-Some.ensures.found.has
    c.reclear.new.given c.let_go.new.self
    (ap (λ (r : Record). kept_pages r.body) c.reclear.ensures ∙ recleared_pages c.intern-new.result.0 c.index_mut.result.now.body
    ∙ ap (λ (r : Record). kept_pages r.body) (read_is c.args.self.now.pieces c.args.self.now.sound c.args.thread c.in-Some.slot.0 c.in-Some.ensures.found.has c.index_mut.result.now c.index_mut.ensures.value))
    (ap (λ (r : Record). keeps_space r.body) c.reclear.ensures ∙ recleared_space c.intern-new.result.0 c.index_mut.result.now.body
    ∙ ap (λ (r : Record). keeps_space r.body) (read_is c.args.self.now.pieces c.args.self.now.sound c.args.thread c.in-Some.slot.0 c.in-Some.ensures.found.has c.index_mut.result.now c.index_mut.ensures.value)))
    c.args.self.now.sound c.args.thread (cleared c.args.clearance.now) (cleared_apart c.args.clearance.now)
    (subst (λ (r : Record). pieces_state (with_both c.args.self.now.pieces c.in-Some.slot.0 r c.let_go.new.self)
    ≡ changed (pieces_state c.args.self.now.pieces) c.args.thread (cleared c.args.clearance.now)) (sym c.reclear.ensures)
    (cleared_state c.args.self.now.pieces c.args.self.now.sound c.args.thread c.in-Some.slot.0 c.in-Some.ensures.found.has
    c.intern-new.result.0 c.args.clearance.now c.requires c.intern-new.new.self c.let_go.new.self c.intern-new.ensures.takes
    c.intern-new.ensures.given c.in-Thread.kept
    (sym (ap (λ (r : Record). r.body) (read_is c.args.self.now.pieces c.args.self.now.sound c.args.thread c.in-Some.slot.0 c.in-Some.ensures.found.has c.index.result.now c.index.ensures)) ∙ c.in-Thread.is)
    c.let_go.ensures.lets c.index_mut.result.now
    (read_is c.args.self.now.pieces c.args.self.now.sound c.args.thread c.in-Some.slot.0 c.in-Some.ensures.found.has c.index_mut.result.now c.index_mut.ensures.value)))

pub returns-in_default-clause-state : goal.returns-in_default-clause-state
returns-in_default-clause-state c =
    held_state c.args.self.now.pieces c.args.self.now.pieces (held_same c.args.self.now.pieces)
    c.args.self.now.sound c.args.thread (cleared c.args.clearance.now) (cleared_apart c.args.clearance.now)
    (uncleared_state c.args.self.now.pieces c.args.self.now.sound c.args.thread c.in-Some.slot.0 c.in-Some.ensures.found.has c.args.clearance.now
    (λ t e. c.in_default.not-Thread t
    (ap (λ (r : Record). r.body) (read_is c.args.self.now.pieces c.args.self.now.sound c.args.thread c.in-Some.slot.0 c.in-Some.ensures.found.has c.index.result.now c.index.ensures) ∙ e)))
