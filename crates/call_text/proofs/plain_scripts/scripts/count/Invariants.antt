-- the numbers so far count from 1, and the next one is one more than there are
use Rattle.std.proofs.Common.{◌≡◌, ◌+◌, drop}
use Rattle.call_text.specs.Scripts.{counts_from}
use Rattle.call_text.proofs.plain_scripts.scripts.count.Given as goal

abbrev pub invariant-loop-number : goal.invariant-loop-number
invariant-loop-number l =
    (counts_from l.next (drop l.number-index l.numbers) ≡ counts_from 1 l.numbers) × (l.next ≡ l.number-index + 1)
