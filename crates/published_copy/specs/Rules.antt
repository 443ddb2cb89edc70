-- The rule of the log, and what its steps tell.
use Rattle.std.specs.Prelude.{ℕ, ◌≡◌, ◌==◌, true, List, [], ◌∷◌, ◌++◌, MatchBool}
use Rattle.logbook.specs.Pages.{Cell, Step, View, Book as Log, Named}
use Rattle.published_copy.specs.declared.entries.Entry.{Entry}
use Rattle.published_copy.specs.Entries.{weight}

-- the first word is the weight of the log. A log has two words, of which this one leaves the second
-- at 0
pub record IsKept (cells : List Cell) (log : List Entry) : Type 0 where
  pub words : cells ≡ (weight log, true) ∷ (0, true) ∷ []

-- the first word of a log
abbrev pub head_of : Log → Named
head_of b = record { tracked = true; key = 0; book = b }

-- the entry was added to all that had been seen; or the log was longer
abbrev pub Adds : Step Entry → View Entry ℕ → ℕ → View Entry ℕ → Type 0
Adds s v found w = MatchBool (found == s.old) (w.0 ≡ v.0 ++ s.ask ∷ []) (Unit {0})

-- what was found is the weight of what was seen then
abbrev pub Looks : Step Entry → View Entry ℕ → ℕ → View Entry ℕ → Type 0
Looks s v found w = found ≡ weight w.0
