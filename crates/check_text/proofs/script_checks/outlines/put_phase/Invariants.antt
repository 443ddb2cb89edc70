use Rattle.std.proofs.Common.{◌≡◌, ◌++◌, drop, map}
use Rattle.check_text.specs.Outlines.{outline_of}
use Rattle.check_text.proofs.script_checks.outlines.put_phase.Given as goal

abbrev pub invariant-loop-at : goal.invariant-loop-at
invariant-loop-at l = l.out.items ++ map (outline_of l.place) (drop l.at l.phase) ≡ l.fn.out.items ++ map (outline_of l.place) l.phase
