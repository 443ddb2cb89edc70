use Rattle.std.proofs.Common.{◌≡◌}
use Rattle.containers.specs.View.{spare_below}
use Rattle.containers.proofs.cells.spare_rings.Given as goal

abbrev pub invariant-loop-cell : goal.invariant-loop-cell
invariant-loop-cell l = l.rings ≡ spare_below l.size l.cell
