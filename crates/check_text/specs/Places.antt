-- The place that a line of output begins with.
use Rattle.std.specs.Prelude.{ℕ, List, [], ◌∷◌, ◌++◌, decimal}
use Rattle.call_text.specs.Numbers.{number_at}

-- PATH:LINE:, by the number of the line as it was written
abbrev pub place_text : List ℕ → List ℕ → ℕ → List ℕ
place_text path numbers line = path ++ 58 ∷ (decimal (number_at numbers line) ++ 58 ∷ [])
