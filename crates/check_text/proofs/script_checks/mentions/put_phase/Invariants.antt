use Rattle.std.proofs.Common.{◌≡◌, ◌++◌, drop}
use Rattle.check_text.specs.Mentions.{phase_mentions}
use Rattle.check_text.proofs.script_checks.mentions.put_phase.Given as goal

abbrev pub invariant-loop-place : goal.invariant-loop-place
invariant-loop-place l = l.out.items ++ phase_mentions (drop l.place l.phase) ≡ l.fn.out.items ++ phase_mentions l.phase
