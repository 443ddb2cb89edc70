-- what was added, with what comes of the rest, is what comes of the text
use Rattle.std.proofs.Common.{◌≡◌, ◌++◌, length, []}
use Rattle.call_text.specs.Scripts.{plain_text, numbers_of, numbers_from}
use Rattle.call_text.proofs.plain_scripts.scripts.put_lines.Given as goal

abbrev pub invariant-loop-line : goal.invariant-loop-line
invariant-loop-line l =
    (l.plain.text.items ++ plain_text l.rest ≡ l.fn.plain.text.items ++ plain_text l.bytes)
    × (l.plain.numbers.items ++ numbers_from l.number [] l.rest ≡ l.fn.plain.numbers.items ++ numbers_of l.bytes)

abbrev pub decreases-loop-line : goal.decreases-loop-line
decreases-loop-line l = length l.rest
