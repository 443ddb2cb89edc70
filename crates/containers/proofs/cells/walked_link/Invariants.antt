use Rattle.std.proofs.Common.{◌≡◌, ◌<◌, ℕ}
use Rattle.std.specs.Prelude.{slice_get}
use Rattle.containers.specs.Lists.{cells_at, StandsAt}
use Rattle.containers.specs.Cells.{Stands}
use Rattle.containers.proofs.cells.walked_link.Given as goal

abbrev pub invariant-loop : goal.invariant-loop
invariant-loop l = record {
  next : l.next ≡ slice_get (cells_at l.rings 1 l.object) l.counter;
  before : (k c : ℕ) → k < l.counter → StandsAt (cells_at l.rings 1 l.object) k c → Stands l.rings 0 l.container c → ⊥;
  scans : l.meter.scans ≡ l.initial.meter.scans;
}
