use Rattle.std.proofs.Common.{◌≡◌, ◌++◌, drop}
use Rattle.check_text.specs.Surveys.{survey_of}
use Rattle.check_text.specs.Warnings.{warnings_from, warnings_of}
use Rattle.check_text.proofs.script_checks.warnings.warnings_of.Given as goal

abbrev pub invariant-loop-place : goal.invariant-loop-place
invariant-loop-place l = l.found.items ++ warnings_from (survey_of l.phases) l.place (drop l.place l.phases) ≡ warnings_of l.phases
