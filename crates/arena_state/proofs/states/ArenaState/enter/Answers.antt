use Rattle.std.proofs.Common.{refl, ◌≡◌, ◌+◌, sym, ◌∙◌, ap, subst, arith}
use Rattle.label_intern.specs.Owners.{one_at}
use Rattle.label_intern.proofs.OwnersLemmas.{takes_as, takes_then, lets_as, lets_then}
use Rattle.kernel_rules.specs.Changes.{changed, entered, labelled}
use Rattle.arena_state.specs.declared.records.Record.{Record}
use Rattle.arena_state.specs.Assembled.{pieces_state}
use Rattle.arena_state.specs.Sound.{IsSound}
use Rattle.arena_state.proofs.EditLaws.{read_is}
use Rattle.arena_state.proofs.NewLaws.{still}
use Rattle.arena_state.proofs.RoomLaws.{labels_free}
use Rattle.arena_state.proofs.RebindLaws.{with_both}
use Rattle.arena_state.proofs.EnterLaws.{entered_sound, entered_state, entered_other}
use Rattle.arena_state.specs.Filled.{filled_state}
use Rattle.arena_state.specs.Stocked.{content_at, kept_pages, keeps_space}
use Rattle.arena_state.proofs.HeldLaws.{held_stocked, held_state, whole_changed}
use Rattle.arena_state.proofs.WholeEditLaws.{rebound_held, entered_apart}
use Rattle.arena_state.proofs.states.ArenaState.enter.Goals as goal

pub intern-own-requires : goal.intern-own-requires
intern-own-requires c = omega (arith, labels_free c.args.self.now.pieces c.args.self.now.sound)

pub intern-high-requires : goal.intern-high-requires
intern-high-requires c =
    omega (arith, labels_free c.args.self.now.pieces c.args.self.now.sound, c.intern-own.ensures.owners, c.intern-own.ensures.takes.pool)

pub intern-shown-requires : goal.intern-shown-requires
intern-shown-requires c =
    omega (
      arith,
      labels_free c.args.self.now.pieces c.args.self.now.sound,
      c.intern-own.ensures.owners,
      c.intern-own.ensures.takes.pool,
      c.intern-high.ensures.owners,
      c.intern-high.ensures.takes.pool,
    )

pub invariant_of-self : goal.invariant_of-self
invariant_of-self c = record {
  sound = subst (λ (r : Record). IsSound (with_both c.args.self.now.pieces c.in-Some.slot.0 r c.let_go-in-Thread-2.new.self)) (sym c.rebind.ensures)
      (entered_sound c.args.self.now.pieces c.args.self.now.sound c.args.thread c.in-Some.slot.0 c.in-Some.ensures.found.has
      c.intern-own.result.0 c.intern-high.result.0 c.intern-shown.result.0 c.args.labels.now.label.now c.args.labels.now.clearance.now c.args.labels.now.verify.now c.args.gate.now
      c.requires.label c.requires.clearance c.requires.verify c.intern-shown.new.self c.let_go-in-Thread-2.new.self
      (takes_as _ _ _ _ (λ i. omega arith) (takes_then _ _ _ _ _ c.intern-own.ensures.takes (takes_then _ _ _ _ _ c.intern-high.ensures.takes c.intern-shown.ensures.takes)))
      (still _ _ _ _ _ _ c.intern-own.ensures.takes c.intern-own.ensures.given (takes_then _ _ _ _ _ c.intern-high.ensures.takes c.intern-shown.ensures.takes))
      (still _ _ _ _ _ _ c.intern-high.ensures.takes c.intern-high.ensures.given c.intern-shown.ensures.takes) c.intern-shown.ensures.given
      c.in-Thread.old (sym (ap (λ (r : Record). r.body) (read_is c.args.self.now.pieces c.args.self.now.sound c.args.thread c.in-Some.slot.0 c.in-Some.ensures.found.has c.index-in-Some.result.now c.index-in-Some.ensures)) ∙ c.in-Thread.is)
      (lets_as _ _ _ _ (λ i. ap (λ (r : Record). one_at i r.label.0 + (one_at i c.in-Thread.old.clearance.0 + one_at i c.in-Thread.old.verify.0)) (read_is c.args.self.now.pieces c.args.self.now.sound c.args.thread c.in-Some.slot.0 c.in-Some.ensures.found.has c.index.result.now c.index.ensures))
      (lets_then _ _ _ _ _ c.let_go.ensures.lets (lets_then _ _ _ _ _ c.let_go-in-Thread.ensures.lets c.let_go-in-Thread-2.ensures.lets)))
      c.index_mut.result.now (read_is c.args.self.now.pieces c.args.self.now.sound c.args.thread c.in-Some.slot.0 c.in-Some.ensures.found.has c.index_mut.result.now c.index_mut.ensures.value));
  stocked = held_stocked c.args.self.now.pieces (with_both c.args.self.now.pieces c.in-Some.slot.0 c.rebind.new.given c.let_go-in-Thread-2.new.self)
      (rebound_held c.args.self.now.pieces c.args.self.now.sound c.args.thread c.in-Some.slot.0 c.in-Some.ensures.found.has
      c.rebind.new.given c.let_go-in-Thread-2.new.self
      (ap (λ (r : Record). kept_pages r.body) c.rebind.ensures ∙ sym (ap kept_pages (sym (ap (λ (r : Record). r.body) (read_is c.args.self.now.pieces c.args.self.now.sound c.args.thread c.in-Some.slot.0 c.in-Some.ensures.found.has c.index-in-Some.result.now c.index-in-Some.ensures)) ∙ c.in-Thread.is)))
      (ap (λ (r : Record). keeps_space r.body) c.rebind.ensures ∙ sym (ap keeps_space (sym (ap (λ (r : Record). r.body) (read_is c.args.self.now.pieces c.args.self.now.sound c.args.thread c.in-Some.slot.0 c.in-Some.ensures.found.has c.index-in-Some.result.now c.index-in-Some.ensures)) ∙ c.in-Thread.is))))
      c.args.self.now.stocked;
}

pub returns-in-Thread-clause-state : goal.returns-in-Thread-clause-state
returns-in-Thread-clause-state c =
    held_state c.args.self.now.pieces (with_both c.args.self.now.pieces c.in-Some.slot.0 c.rebind.new.given c.let_go-in-Thread-2.new.self)
    (rebound_held c.args.self.now.pieces c.args.self.now.sound c.args.thread c.in-Some.slot.0 c.in-Some.ensures.found.has
    c.rebind.new.given c.let_go-in-Thread-2.new.self
    (ap (λ (r : Record). kept_pages r.body) c.rebind.ensures ∙ sym (ap kept_pages (sym (ap (λ (r : Record). r.body) (read_is c.args.self.now.pieces c.args.self.now.sound c.args.thread c.in-Some.slot.0 c.in-Some.ensures.found.has c.index-in-Some.result.now c.index-in-Some.ensures)) ∙ c.in-Thread.is)))
    (ap (λ (r : Record). keeps_space r.body) c.rebind.ensures ∙ sym (ap keeps_space (sym (ap (λ (r : Record). r.body) (read_is c.args.self.now.pieces c.args.self.now.sound c.args.thread c.in-Some.slot.0 c.in-Some.ensures.found.has c.index-in-Some.result.now c.index-in-Some.ensures)) ∙ c.in-Thread.is))))
    c.args.self.now.sound c.args.thread (entered c.args.labels.now.label.now c.args.labels.now.clearance.now c.args.labels.now.verify.now c.args.gate.now)
    (entered_apart c.args.labels.now.label.now c.args.labels.now.clearance.now c.args.labels.now.verify.now c.args.gate.now)
    (subst (λ (r : Record). pieces_state (with_both c.args.self.now.pieces c.in-Some.slot.0 r c.let_go-in-Thread-2.new.self)
    ≡ changed (pieces_state c.args.self.now.pieces) c.args.thread (entered c.args.labels.now.label.now c.args.labels.now.clearance.now c.args.labels.now.verify.now c.args.gate.now)) (sym c.rebind.ensures)
    (entered_state c.args.self.now.pieces c.args.self.now.sound c.args.thread c.in-Some.slot.0 c.in-Some.ensures.found.has
    c.intern-own.result.0 c.intern-high.result.0 c.intern-shown.result.0 c.args.labels.now.label.now c.args.labels.now.clearance.now c.args.labels.now.verify.now c.args.gate.now
    c.requires.label c.requires.clearance c.requires.verify c.intern-shown.new.self c.let_go-in-Thread-2.new.self
    (takes_as _ _ _ _ (λ i. omega arith) (takes_then _ _ _ _ _ c.intern-own.ensures.takes (takes_then _ _ _ _ _ c.intern-high.ensures.takes c.intern-shown.ensures.takes)))
    (still _ _ _ _ _ _ c.intern-own.ensures.takes c.intern-own.ensures.given (takes_then _ _ _ _ _ c.intern-high.ensures.takes c.intern-shown.ensures.takes))
    (still _ _ _ _ _ _ c.intern-high.ensures.takes c.intern-high.ensures.given c.intern-shown.ensures.takes) c.intern-shown.ensures.given
    c.in-Thread.old (sym (ap (λ (r : Record). r.body) (read_is c.args.self.now.pieces c.args.self.now.sound c.args.thread c.in-Some.slot.0 c.in-Some.ensures.found.has c.index-in-Some.result.now c.index-in-Some.ensures)) ∙ c.in-Thread.is)
    (lets_as _ _ _ _ (λ i. ap (λ (r : Record). one_at i r.label.0 + (one_at i c.in-Thread.old.clearance.0 + one_at i c.in-Thread.old.verify.0)) (read_is c.args.self.now.pieces c.args.self.now.sound c.args.thread c.in-Some.slot.0 c.in-Some.ensures.found.has c.index.result.now c.index.ensures))
    (lets_then _ _ _ _ _ c.let_go.ensures.lets (lets_then _ _ _ _ _ c.let_go-in-Thread.ensures.lets c.let_go-in-Thread-2.ensures.lets)))
    c.index_mut.result.now (read_is c.args.self.now.pieces c.args.self.now.sound c.args.thread c.in-Some.slot.0 c.in-Some.ensures.found.has c.index_mut.result.now c.index_mut.ensures.value)))

pub returns-in_default-clause-state : goal.returns-in_default-clause-state
returns-in_default-clause-state c =
    c.set_label.ensures.state
    ∙ sym (whole_changed c.args.self.now.pieces c.args.self.now.sound c.args.thread (labelled c.args.labels.now.label.now) (λ o x. refl))
    ∙ ap (filled_state (content_at c.args.self.now.pieces)) (entered_other c.args.self.now.pieces c.args.self.now.sound c.args.thread c.in-Some.slot.0 c.in-Some.ensures.found.has
    c.args.labels.now.label.now c.args.labels.now.clearance.now c.args.labels.now.verify.now c.args.gate.now
    (λ t e. c.in_default.not-Thread t (ap (λ (r : Record). r.body) (read_is c.args.self.now.pieces c.args.self.now.sound c.args.thread c.in-Some.slot.0 c.in-Some.ensures.found.has c.index-in-Some.result.now c.index-in-Some.ensures) ∙ e)))
    ∙ whole_changed c.args.self.now.pieces c.args.self.now.sound c.args.thread (entered c.args.labels.now.label.now c.args.labels.now.clearance.now c.args.labels.now.verify.now c.args.gate.now)
    (entered_apart c.args.labels.now.label.now c.args.labels.now.clearance.now c.args.labels.now.verify.now c.args.gate.now)
