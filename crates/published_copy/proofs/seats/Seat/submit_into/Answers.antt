use Rattle.std.proofs.Common.{List, ◌∷◌, [], ap, subst}
use Rattle.kernel_rules.specs.Events.{Event}
use Rattle.kernel_rules.specs.History.{IsLegal}
use Rattle.published_copy.specs.Turns.{Turn, IsNotSubmitted}
use Rattle.published_copy.proofs.Refused.{not_submitted_one}
use Rattle.published_copy.proofs.seats.Seat.submit_into.Goals as goal

pub returns-in-Err-clause-refused : goal.returns-in-Err-clause-refused
returns-in-Err-clause-refused g c =
    let limits = g.B.Naming.boot.limits in
    let kept = c.in-Err.ensures.kept in
    subst (λ (p : Turn). IsNotSubmitted limits p (c.args.call.now ∷ []) c.in-Err.refusal) (ap (λ s. s.pass) c.self.view_is)
    (not_submitted_one c.commit-made.result limits c.self.inside.pass c.args.call.now c.deref_mut.result.now.journal c.in-Err.refusal c.in-Err.is
    (subst (λ (l : List Event). IsLegal limits l) (ap (λ b. b.journal) kept.0) c.commit-made.ensures.legal)
    c.commit-made.ensures.good c.commit-made.ensures.turn)
