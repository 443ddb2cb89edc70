-- How many labels a call scans at most.
use Rattle.std.proofs.Common.{ℕ, ◌+◌, ◌*◌, ◌≤◌, arith}
use Rattle.std.proofs.Math.Nat.{mul-le-mul_left}
use Rattle.kernel_calls.specs.Scans.{most_scans}

-- more labels that stand are no less to scan
pub more_scans : (n m k : ℕ) → m ≤ k → most_scans n m ≤ most_scans n k
more_scans n m k less =
    let fewer : m + n ≤ k + n = omega arith in
    omega (arith, mul-le-mul_left (6 * (n + 1)) fewer)
