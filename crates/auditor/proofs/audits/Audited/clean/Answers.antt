use Rattle.std.proofs.Common.{ℕ, Option, ap, sym, subst, ◌∙◌}
use Rattle.auditor.specs.Audited.{verdict_of}
use Rattle.auditor.specs.Verdict.{IsVerdict}
use Rattle.auditor.proofs.Cleaning.{clean_begins, other_unclean}
use Rattle.auditor.proofs.audits.Audited.clean.Goals as goal

pub returns-in-None-clause-begins : goal.returns-in-None-clause-begins
returns-in-None-clause-begins c =
    clean_begins c.args.self.now.bytes.now c.args.self.now.dump (c.one_reading.ensures.value c.args.self.now.bytes.now) c.requires.spelt
    (subst (λ (line : Option ℕ). IsVerdict c.args.self.now.bytes.now (verdict_of line)) c.in-None.is c.requires.found)

pub returns-in-Some-clause-unclean : goal.returns-in-Some-clause-unclean
returns-in-Some-clause-unclean c = λ no clean.
    other_unclean c.args.self.now.bytes.now (verdict_of c.args.self.now.false_line) (c.one_verdict.ensures c.args.self.now.bytes.now)
    c.requires.found (λ e. cc (sym (ap verdict_of c.in-Some.is) ∙ e)) clean
