-- Stores that keep nothing of a meter's counts.
use Rattle.std.proofs.Common.{ℕ, ◌+◌, ◌≤◌, arith}

-- nothing is at most something more than nothing
pub nothing_kept : (n : ℕ) → 0 ≤ 0 + n
nothing_kept n = omega arith
