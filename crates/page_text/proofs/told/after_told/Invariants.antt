use Rattle.std.proofs.Common.{◌≡◌, drop}
use Rattle.page_text.specs.Told.{told_in}
use Rattle.page_text.proofs.told.after_told.Given as goal

abbrev pub invariant-loop : goal.invariant-loop
invariant-loop l = told_in l.rest ≡ drop l.counter (told_in l.text)
