use Rattle.std.proofs.Common.{◌≡◌, ◌+◌, ◌*◌, ◌≤◌, drop, length}
use Rattle.std.specs.List.{flat_map}
use Rattle.dump_text.specs.CheckpointLines.{object_lines}
use Rattle.shown_dumps.proofs.why.places.object_count.Given as goal

abbrev pub invariant-loop-recorded : goal.invariant-loop-recorded
invariant-loop-recorded l = record {
  counted : l.count + length (flat_map object_lines (drop l.recorded-index l.objects)) ≡ length (flat_map object_lines l.objects);
  bound : l.count ≤ l.recorded-index * 18446744073709551616;
}
