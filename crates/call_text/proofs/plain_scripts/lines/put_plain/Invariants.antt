-- what was added, with what comes of the rest, is what comes of the line
use Rattle.std.proofs.Common.{◌≡◌, ◌++◌, length}
use Rattle.call_text.specs.Lines.{plain_line}
use Rattle.call_text.proofs.plain_scripts.lines.put_plain.Given as goal

abbrev pub invariant-loop-before : goal.invariant-loop-before
invariant-loop-before l = l.out.items ++ plain_line l.rest ≡ l.fn.out.items ++ plain_line l.line

abbrev pub decreases-loop-before : goal.decreases-loop-before
decreases-loop-before l = length l.rest
