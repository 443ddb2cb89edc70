use Rattle.std.proofs.Common.{◌≡◌, ◌++◌, take}
use Rattle.std.specs.List.{AllByRecursion, flat_map}
use Rattle.call_text.specs.Text.{lines_text}
use Rattle.dump_text.specs.CheckpointLines.{object_lines}
use Rattle.dump_text.specs.Line.{line_text}
use Rattle.dump_text.specs.Fits.{FitsLine}
use Rattle.dump_text.proofs.checkpoint_writing.put_objects.Given as goal

abbrev pub invariant-loop-recorded : goal.invariant-loop-recorded
invariant-loop-recorded l = record {
  text : l.out.items ≡ l.fn.out.items ++ lines_text line_text (flat_map object_lines (take l.recorded-index l.objects));
  fits : AllByRecursion FitsLine (flat_map object_lines (take l.recorded-index l.objects));
}
