use Rattle.std.proofs.Common.{ℕ, List, sym, subst}
use Rattle.auditor.specs.Audited.{verdict_of}
use Rattle.auditor.specs.Verdict.{IsVerdict, TellsFalse}
use Rattle.auditor.specs.declared.verdicts.Verdict.{Verdict}
use Rattle.auditor.proofs.audits.audit.Goals as goal

pub returns-in-Ok-clause-verdict : goal.returns-in-Ok-clause-verdict
returns-in-Ok-clause-verdict c =
    subst (λ (v : Verdict). IsVerdict c.args.bytes.now v) (sym c.verdict.ensures)
    (subst (λ (b : List ℕ). IsVerdict b (verdict_of c.in-Ok.found.false_line)) c.in-Ok.ensures.bytes c.in-Ok.ensures.audited.found)

pub returns-in-Ok-clause-line : goal.returns-in-Ok-clause-line
returns-in-Ok-clause-line c =
    subst (λ (v : Verdict). TellsFalse c.args.bytes.now v) (sym c.verdict.ensures)
    (subst (λ (b : List ℕ). TellsFalse b (verdict_of c.in-Ok.found.false_line)) c.in-Ok.ensures.bytes c.in-Ok.ensures.audited.tells)
