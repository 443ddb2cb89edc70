use Rattle.std.proofs.Common.{◌≡◌, ◌≤◌, length, drop}
use Rattle.label_lattice.proofs.PlanesMadeLemmas.{having}
use Rattle.label_lattice.proofs.planes.Planes.of.Given as goal

abbrev pub invariant-loop-place : goal.invariant-loop-place
invariant-loop-place l = record {
  within : l.place ≤ length l.exceptions;
  so_far : l.having ≡ having l.block l.fn.default (drop l.place l.exceptions);
}

abbrev pub decreases-loop-place : goal.decreases-loop-place
decreases-loop-place l = l.place
