use Rattle.std.proofs.Common.{◌≡◌, ◌∷◌, ◌++◌, [], ◌∙◌, sym, ap, subst, List, rules, ◌+◌, ℕ, ◌==◌, if◌then◌else◌}
use Rattle.kernel_rules.specs.Events.{Event}
use Rattle.kernel_rules.specs.History.{count, state_of, IsLegal}
use Rattle.kernel_rules.specs.declared.calls.Call.{Call}
use Rattle.published_copy.specs.Tallies.{tallied, IsTallied}
use Rattle.published_copy.specs.Turns.{event_at, with_event}
use Rattle.published_copy.proofs.Batches.{legal_with, tallied_with}
use Rattle.published_copy.proofs.books.Book.make.Goals as goal

pub invariant_of-self-2 : goal.invariant_of-self-2
invariant_of-self-2 g c =
    let limits = g.B.Naming.boot.limits in
    let old = c.self.inside.journal.items in
    let pass = c.args.pass.now in
    let calls : List Call = c.args.call.now ∷ c.args.more.now in
    let tallies = c.self.inside.tallies.items in
    let event : Event = c.in_ok-event.event in
    let made : event ≡ event_at (state_of limits c.self.inside.pair) pass calls = search rules in
    let same : event ≡ event_at (state_of limits old) pass calls =
    made ∙ ap (λ l. event_at (state_of limits l) pass calls) c.self.invariant.3 in
    let pushed : c.push_reserved.new.self.items ≡ old ++ event ∷ [] = search rules in
    let items : c.push_reserved.new.self.items ≡ with_event limits old pass calls =
    pushed ∙ ap (λ (e : Event). old ++ e ∷ []) same in
    let number : pass.number ≡ count pass.thread old + 1 = search rules in
    let given : (other : ℕ) → tallied other c.count_events.new.tallies.items ≡ (if pass.thread == other then pass.number else tallied other tallies) = search rules in
    let published : c.commit.new.self ≡ with_event limits c.self.inside.pair pass calls = search rules in (
      c.self.invariant.0,
      subst (λ (l : List Event). IsLegal limits l) (sym items) (legal_with limits old pass calls c.self.invariant.1 c.requires.size number),
      subst (λ (l : List Event). IsTallied c.count_events.new.tallies.items l) (sym items)
          (tallied_with tallies c.count_events.new.tallies.items limits old pass calls c.self.invariant.2 given number),
      published ∙ ap (λ l. with_event limits l pass calls) c.self.invariant.3 ∙ sym items,
      c.self.invariant.4,
    )

pub returns-clause-legal : goal.returns-clause-legal
returns-clause-legal g c = (invariant_of-self-2 g c).1
