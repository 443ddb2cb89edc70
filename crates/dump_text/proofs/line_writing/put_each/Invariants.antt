use Rattle.std.proofs.Common.{◌≡◌, ◌++◌, map, take}
use Rattle.std.specs.List.{AllByRecursion}
use Rattle.call_text.specs.Text.{lines_text}
use Rattle.dump_text.specs.Line.{line_text}
use Rattle.dump_text.specs.Fits.{FitsLine}
use Rattle.dump_text.proofs.line_writing.put_each.Given as goal

abbrev pub invariant-loop-item : goal.invariant-loop-item
invariant-loop-item g l = record {
  text : l.out.items ≡ l.fn.out.items ++ lines_text line_text (map g.T.AsLine.line (take l.item-index l.items));
  fits : AllByRecursion (λ x. FitsLine (g.T.AsLine.line x)) (take l.item-index l.items);
  lines : AllByRecursion FitsLine (map g.T.AsLine.line (take l.item-index l.items));
}
