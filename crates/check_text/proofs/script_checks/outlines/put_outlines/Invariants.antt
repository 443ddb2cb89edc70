use Rattle.std.proofs.Common.{◌≡◌, ◌++◌, drop}
use Rattle.check_text.specs.Outlines.{outlines_from}
use Rattle.check_text.proofs.script_checks.outlines.put_outlines.Given as goal

abbrev pub invariant-loop-place : goal.invariant-loop-place
invariant-loop-place l = l.out.items ++ outlines_from l.place (drop l.place l.phases) ≡ l.fn.out.items ++ outlines_from 0 l.phases
