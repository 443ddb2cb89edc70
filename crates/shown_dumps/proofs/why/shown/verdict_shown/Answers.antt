use Rattle.std.proofs.Common.{◌++◌, ℕ, List, Option, ap, subst, ◌∙◌}
use Rattle.auditor.specs.Audited.{verdict_of}
use Rattle.auditor.specs.Lines.{verdict_line}
use Rattle.auditor.specs.Verdict.{IsVerdict}
use Rattle.auditor.specs.declared.verdicts.Verdict.TheVariants as is
use Rattle.shown_dumps.proofs.why.shown.verdict_shown.Goals as goal

pub returns-in_ok-clean_shown-in-None : goal.returns-in_ok-clean_shown-in-None
returns-in_ok-clean_shown-in-None c = (
  is.Clean,
  subst (λ (line : Option ℕ). IsVerdict c.args.audited.now.bytes.now (verdict_of line)) c.in-None.is c.requires.found,
  c.in_ok-clean_shown-in-None.ensures,
)

pub returns-in_ok-false_shown-in-Some : goal.returns-in_ok-false_shown-in-Some
returns-in_ok-false_shown-in-Some c = (
  is.False c.in-Some.line,
  subst (λ (line : Option ℕ). IsVerdict c.args.audited.now.bytes.now (verdict_of line)) c.in-Some.is c.requires.found,
  (
    c.in_ok-more-in-Some.more.items,
    c.in_ok-false_shown-in-Some.ensures ∙ ap (λ (more : List ℕ). verdict_line (is.False c.in-Some.line) ++ more) c.as_slice.ensures.value,
    c.in_ok-more-in-Some.ensures,
  ),
)
