use Rattle.std.proofs.Common.{Err, Some, sym, subst}
use Rattle.base.specs.declared.refusals.Refusal.{Refusal}
use Rattle.script_runner.specs.Desks.{IsGiven}
use Rattle.script_runner.proofs.SharedLaws.{not_opened_given, opened_given, opened_noted}
use Rattle.script_runner.proofs.shared_desks.SharedDesk.open.Goals as goal

pub returns-in-Ok-clause-given : goal.returns-in-Ok-clause-given
returns-in-Ok-clause-given g c = opened_given g.B.Naming.boot c.args.thread c.in-Ok.seat c.in-Ok.ensures.done

pub returns-in-Ok-clause-noted : goal.returns-in-Ok-clause-noted
returns-in-Ok-clause-noted g c = opened_noted g.B.Naming.boot c.args.thread c.in-Ok.seat c.in-Ok.ensures.done

pub returns-in-Err-clause-given : goal.returns-in-Err-clause-given
returns-in-Err-clause-given g c =
    subst (λ (r : Refusal). IsGiven g.B.Naming.boot.limits g.B.Naming.boot.seats c.args.thread (Err (Some r))) (sym c.refusal.ensures)
    (not_opened_given g.B.Naming.boot c.args.thread c.in-Err.refusal c.in-Err.ensures.refused)
