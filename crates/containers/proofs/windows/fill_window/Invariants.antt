use Rattle.std.proofs.Common.{◌≡◌, ◌+◌, ◌<◌, ◌≤◌, ℕ}
use Rattle.std.specs.Prelude.{slice_get, slice_index}
use Rattle.containers.specs.Lists.{cells_at}
use Rattle.containers.specs.View.{ids_of}
use Rattle.containers.proofs.windows.fill_window.Given as goal

abbrev pub invariant-loop-place : goal.invariant-loop-place
invariant-loop-place l = record {
  next : l.next ≡ slice_get (cells_at l.rings 0 l.slot) (l.from + l.place);
  listed : (k : ℕ) → k < l.place → slice_index l.window k ≡ slice_index (ids_of l.rings l.pool.names.now l.slot) (l.from + k);
  rest : (k : ℕ) → l.place ≤ k → slice_index l.window k ≡ slice_index l.fn.window k;
  scans : l.meter.scans ≡ l.initial.meter.scans;
}
