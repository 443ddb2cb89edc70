use Rattle.std.proofs.Common.{◌≡◌, ◌++◌, drop}
use Rattle.check_text.specs.WarningTexts.{warnings_text}
use Rattle.check_text.proofs.warning_texts.put_warnings.Given as goal

abbrev pub invariant-loop-warned : goal.invariant-loop-warned
invariant-loop-warned l = l.out.items ++ warnings_text l.source.path.now l.source.numbers.now (drop l.warned-index l.warnings) ≡ l.fn.out.items ++ warnings_text l.source.path.now l.source.numbers.now l.warnings
