use Rattle.std.proofs.Common.{◌≡◌, length}
use Rattle.shown_dumps.specs.Pieces.{lines_of}
use Rattle.page_text.specs.Edits.{has_line}
use Rattle.page_text.proofs.lines.has_line.Given as goal

abbrev pub invariant-lines : goal.invariant-lines
invariant-lines l = has_line (lines_of l.rest) l.line ≡ has_line (lines_of l.fn.text) l.line

abbrev pub decreases-lines : goal.decreases-lines
decreases-lines l = length l.rest
