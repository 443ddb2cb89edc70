use Rattle.std.proofs.Common.{Err, ℕ, Option, ap, subst}
use Rattle.auditor.specs.Audited.{verdict_of}
use Rattle.auditor.specs.Verdict.{IsVerdict}
use Rattle.histar_audit.proofs.audit_program.program.changed.Goals as goal

pub returns-in-Err-NotClean : goal.returns-in-Err-NotClean
returns-in-Err-NotClean c =
    absurd (c.in-Err-NotClean.ensures.unclean (ap Err c.in-Err-NotClean.field-0-is)
    (subst (λ (line : Option ℕ). IsVerdict c.args.audited.now.bytes.now (verdict_of line)) c.requires.clean c.requires.audited.found))
