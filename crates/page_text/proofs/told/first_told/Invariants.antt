use Rattle.std.proofs.Common.{◌≡◌, length}
use Rattle.page_text.specs.Told.{told_in}
use Rattle.page_text.proofs.told.first_told.Given as goal

abbrev pub invariant-lines : goal.invariant-lines
invariant-lines l = told_in l.rest ≡ told_in l.fn.text

abbrev pub decreases-lines : goal.decreases-lines
decreases-lines l = length l.rest
