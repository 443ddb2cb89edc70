use Rattle.std.proofs.Common.{◌≡◌}
use Rattle.std.specs.Prelude.{slice_get}
use Rattle.containers.specs.Lists.{cells_at}
use Rattle.containers.proofs.windows.cell_at.Given as goal

abbrev pub invariant-loop : goal.invariant-loop
invariant-loop l = record {
  next : l.next ≡ slice_get (cells_at l.rings 0 l.slot) l.counter;
  scans : l.meter.scans ≡ l.initial.meter.scans;
}
