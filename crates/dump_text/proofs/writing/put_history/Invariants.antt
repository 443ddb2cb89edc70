use Rattle.std.proofs.Common.{◌≡◌, ◌++◌, drop}
use Rattle.std.specs.List.{AllByRecursion}
use Rattle.call_text.specs.Text.{lines_text}
use Rattle.dump_text.specs.Line.{line_text}
use Rattle.dump_text.specs.Dump.{told_lines}
use Rattle.dump_text.specs.Fits.{FitsLine}
use Rattle.dump_text.proofs.writing.put_history.Given as goal

abbrev pub invariant-loop-place : goal.invariant-loop-place
invariant-loop-place l = record {
  text : l.out.items ++ lines_text line_text (told_lines l.place (drop l.place l.events) l.rest)
      ≡ l.fn.out.items ++ lines_text line_text (told_lines 0 l.events l.reads);
  fits : AllByRecursion FitsLine (told_lines l.place (drop l.place l.events) l.rest)
      → AllByRecursion FitsLine (told_lines 0 l.events l.reads);
}
