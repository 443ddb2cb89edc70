use Rattle.std.proofs.Common.{ℕ, length, ◌-◌, ◌+◌, ◌≤◌, ◌<◌, ◌^◌, ◌==◌}
use Rattle.std.specs.Int.{bit_at}
use Rattle.label_lattice.specs.Ways.{both_test}
use Rattle.label_lattice.specs.Walk.{ComparesOn}
use Rattle.label_lattice.proofs.walk.compare_everywhere.Given as goal

abbrev pub invariant-loop-i : goal.invariant-loop-i
invariant-loop-i l = record {
  a_within : l.i ≤ length l.a;
  b_within : l.j ≤ length l.b;
  few : l.held < 2 ^ 6;
  bits :
      (k : ℕ) → ComparesOn (both_test k) l.a_default l.b_default l.a l.b l.i l.j
      (bit_at l.held k == 1);
}

abbrev pub decreases-loop-i : goal.decreases-loop-i
decreases-loop-i l = (length l.a + length l.b) - (l.i + l.j)
