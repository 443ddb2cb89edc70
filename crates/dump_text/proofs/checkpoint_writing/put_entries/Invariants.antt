use Rattle.std.proofs.Common.{◌≡◌, ◌++◌, map, take}
use Rattle.std.specs.List.{AllByRecursion}
use Rattle.call_text.specs.Text.{lines_text}
use Rattle.dump_text.specs.CheckpointLines.{entry_line}
use Rattle.dump_text.specs.Line.{line_text}
use Rattle.dump_text.specs.Fits.{FitsLine}
use Rattle.dump_text.proofs.checkpoint_writing.put_entries.Given as goal

abbrev pub invariant-loop-id : goal.invariant-loop-id
invariant-loop-id l = record {
  text : l.out.items ≡ l.fn.out.items ++ lines_text line_text (map entry_line (take l.id-index l.ids));
  fits : AllByRecursion FitsLine (map entry_line (take l.id-index l.ids));
}
