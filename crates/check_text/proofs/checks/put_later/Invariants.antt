-- what is told of the lines so far is added, and with what is told of the others it is all
use Rattle.std.proofs.Common.{◌≡◌, ◌-◌, ◌++◌, List, ℕ}
use Rattle.check_text.specs.Checks.{AreToldLater}
use Rattle.check_text.proofs.checks.put_later.Given as goal

abbrev pub invariant-loop-number : goal.invariant-loop-number
invariant-loop-number l = (told : List ℕ) × (l.out.items ≡ l.fn.out.items ++ told)
    × ((later : List ℕ) → AreToldLater l.source.path.now l.source.numbers.now l.number (65537 - l.number) l.rest later
    → AreToldLater l.source.path.now l.source.numbers.now l.first (65537 - l.first) l.text (told ++ later))
