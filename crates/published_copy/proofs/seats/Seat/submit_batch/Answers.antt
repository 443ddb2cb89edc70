use Rattle.std.proofs.Common.{rules, ◌≡◌, List, ◌∷◌, [], ap, sym, subst}
use mathlib.Core.List.{IsPrefix}
use Rattle.kernel_rules.specs.Events.{Event}
use Rattle.kernel_rules.specs.History.{IsLegal}
use Rattle.published_copy.specs.Turns.{Turn, IsNotSubmitted}
use Rattle.published_copy.proofs.Prefixes.{prefix_self}
use Rattle.published_copy.proofs.Refused.{not_submitted}
use Rattle.published_copy.proofs.seats.Seat.submit_batch.Goals as goal

pub returns-in-Err-clause-refused : goal.returns-in-Err-clause-refused
returns-in-Err-clause-refused g c =
    let limits = g.B.Naming.boot.limits in
    let kept = c.in-Err.ensures.kept in
    subst (λ (p : Turn). IsNotSubmitted limits p c.args.calls.now c.in-Err.refusal) (ap (λ s. s.pass) c.self.view_is)
    (not_submitted c.commit_batch-made.result limits c.self.inside.pass c.args.calls.now c.deref_mut.result.now.journal c.in-Err.refusal c.in-Err.is
    (subst (λ (l : List Event). IsLegal limits l) (ap (λ b. b.journal) kept.0) c.commit_batch-made.ensures.legal)
    c.commit_batch-made.ensures.good c.commit_batch-made.ensures.turn)

pub invariant_of-self : goal.invariant_of-self
invariant_of-self g c =
    let seen : List Event = c.commit_batch-made.new.pass.seen in
    let same : c.again.result ≡ seen = search rules in
    (subst (λ (l : List Event). IsPrefix l seen) (sym same) (prefix_self seen), c.self.invariant.1)
