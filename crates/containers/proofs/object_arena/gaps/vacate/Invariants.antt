use Rattle.std.proofs.Common.{◌≡◌}
use Rattle.containers.specs.Gaps.{IsVacated}
use Rattle.containers.proofs.object_arena.gaps.vacate.Given as goal

abbrev pub invariant-loop-id : goal.invariant-loop-id
invariant-loop-id g l = record {
  vacated : IsVacated l.ids l.slots l.gone l.id-index l.initial.cells l.cells l.first;
  scans : l.meter.scans ≡ l.initial.meter.scans;
}
