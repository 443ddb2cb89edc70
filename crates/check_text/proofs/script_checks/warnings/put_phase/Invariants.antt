use Rattle.std.proofs.Common.{◌≡◌, ◌++◌, drop}
use Rattle.check_text.specs.Warnings.{phase_warnings}
use Rattle.check_text.proofs.script_checks.warnings.put_phase.Given as goal

abbrev pub invariant-loop-at : goal.invariant-loop-at
invariant-loop-at l = l.out.items ++ phase_warnings l.survey l.place (drop l.at l.phase) ≡ l.fn.out.items ++ phase_warnings l.survey l.place l.phase
