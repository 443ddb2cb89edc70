use Rattle.std.proofs.Common.{◌≡◌, ◌∷◌, ◌++◌, [], ◌∙◌, sym, ap, subst, refl, List, rules, ◌+◌, ℕ, ◌==◌, if◌then◌else◌, length, arith}
use Rattle.kernel_rules.specs.Events.{Event, by}
use Rattle.kernel_rules.specs.History.{answered, count, state_of, IsLegal}
use Rattle.kernel_rules.specs.State.{State}
use Rattle.kernel_rules.specs.Runs.{state_after, replies_to}
use Rattle.kernel_rules.specs.declared.calls.Call.{Call}
use Rattle.kernel_rules.specs.declared.replies.Reply.{Reply}
use Rattle.syscall_core.specs.Kernel.{kernel_state}
use Rattle.published_copy.specs.Tallies.{tallied, IsTallied}
use Rattle.published_copy.specs.Turns.{event_at, next_turn, with_event}
use Rattle.published_copy.proofs.Batches.{event_same, legal_with, paired, replies_length, state_with, tallied_with}
use Rattle.published_copy.proofs.sole.SoleBook.make.Goals as goal

pub event-event-requires : goal.event-event-requires
event-event-requires g c =
    let before = kernel_state c.self.inside.kernel in
    let calls : List Call = c.args.call.now ∷ c.args.more.now in
    let kept : length c.in_ok-kept.kept ≡ length calls = ap length c.in_ok-kept.ensures in
    let told : length (c.make.new.reply ∷ c.make.new.self) ≡ length (replies_to before (by c.args.thread calls)) = ap length c.make.ensures.replies in
    let further : length c.replies-further.result.now ≡ length c.make.new.self = ap length c.replies-further.ensures in
    omega (arith, kept, told, further, replies_length before c.args.thread calls)

pub returns-clause-journal : goal.returns-clause-journal
returns-clause-journal g c =
    let limits = g.B.Naming.boot.limits in
    let old = c.self.inside.journal.items in
    let thread = c.args.thread in
    let calls : List Call = c.args.call.now ∷ c.args.more.now in
    let before : State = kernel_state c.self.inside.kernel in
    let pass = next_turn thread old in
    let event : Event = c.event-event.result in
    let reply : c.new-2.result ≡ c.make.new.reply = search rules in
    let told : c.new-2.result ∷ c.replies-further.result.now ≡ replies_to before (by thread calls) =
    (λ i. reply i ∷ c.replies-further.ensures i) ∙ c.make.ensures.replies in
    let here : event.calls ≡ answered (state_of limits old) thread calls =
    c.event-event.ensures.calls ∙ paired before thread calls c.in_ok-kept.kept _ c.in_ok-kept.ensures told
    ∙ ap (λ s. answered s thread calls) c.self.invariant.3 in
    let number : event.number ≡ count thread old + 1 = search rules in
    let by_it : event.thread ≡ thread = search rules in
    let same : event ≡ event_at (state_of limits old) pass calls =
    event_same (state_of limits old) pass calls event by_it number here in
    let items : c.push_reserved.new.self.items ≡ old ++ event ∷ [] = search rules in
    items ∙ ap (λ (e : Event). old ++ e ∷ []) same
    ∙ ap (λ l. with_event limits l (next_turn thread l) calls) (ap (λ b. b.journal) c.self.view_is)

pub invariant_of-self-2 : goal.invariant_of-self-2
invariant_of-self-2 g c =
    let limits = g.B.Naming.boot.limits in
    let old = c.self.inside.journal.items in
    let thread = c.args.thread in
    let calls : List Call = c.args.call.now ∷ c.args.more.now in
    let before : State = kernel_state c.self.inside.kernel in
    let pass = next_turn thread old in
    let tallies = c.self.inside.tallies.items in
    let items : c.push_reserved.new.self.items ≡ with_event limits old pass calls =
    returns-clause-journal g c ∙ sym (ap (λ l. with_event limits l (next_turn thread l) calls) (ap (λ b. b.journal) c.self.view_is)) in
    let given : (other : ℕ) → tallied other c.count_events.new.tallies.items ≡ (if thread == other then count thread old + 1 else tallied other tallies) = search rules in
    let state : kernel_state c.make.new.kernel ≡ state_of limits (with_event limits old pass calls) =
    c.make.ensures.state ∙ ap (λ s. state_after s (by thread calls)) c.self.invariant.3 ∙ sym (state_with limits old pass calls) in (
      c.self.invariant.0,
      subst (λ (l : List Event). IsLegal limits l) (sym items) (legal_with limits old pass calls c.self.invariant.1 c.requires.size refl),
      subst (λ (l : List Event). IsTallied c.count_events.new.tallies.items l) (sym items)
          (tallied_with tallies c.count_events.new.tallies.items limits old pass calls c.self.invariant.2 given refl),
      state ∙ ap (state_of limits) (sym items),
      c.self.invariant.4,
    )

pub returns-clause-legal : goal.returns-clause-legal
returns-clause-legal g c = (invariant_of-self-2 g c).1
