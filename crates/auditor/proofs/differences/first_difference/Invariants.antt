use Rattle.std.proofs.Common.{◌≡◌, ◌+◌, ◌≤◌, length}
use Rattle.auditor.specs.Verdict.{first_difference}
use Rattle.auditor.proofs.differences.first_difference.Given as goal

abbrev pub invariant-loop-rest : goal.invariant-loop-rest
invariant-loop-rest l =
    (first_difference 1 l.left l.right ≡ first_difference l.line l.rest l.other)
    × (l.line + length l.rest ≤ length l.left + 1)

abbrev pub decreases-loop-rest : goal.decreases-loop-rest
decreases-loop-rest l = length l.rest
