-- The lines of a dump that tell calls and reads.
use Rattle.std.specs.Prelude.{ℕ, ◌==◌, ◌||◌, ◌&&◌, Bool, true, false, List, [], ◌∷◌, codes, if◌then◌else◌}
use Rattle.shown_dumps.specs.Pieces.{lines_of}

-- a text begins with a word
abbrev pub begins_with : List ℕ → List ℕ → Bool
begins_with [] text = true
begins_with (w ∷ ws) [] = false
begins_with (w ∷ ws) (x ∷ xs) = (w == x) && begins_with ws xs

-- a line tells an event, a batch, a call of a batch or a read
abbrev pub is_told : List ℕ → Bool
is_told line =
    begins_with (codes "event ") line || (begins_with (codes "batch ") line
    || (begins_with (codes "call ") line || begins_with (codes "read ") line))

abbrev pub told_lines : List (List ℕ) → List (List ℕ)
told_lines [] = []
told_lines (line ∷ lines) = if is_told line then line ∷ told_lines lines else told_lines lines

abbrev pub told_in : List ℕ → List (List ℕ)
told_in text = told_lines (lines_of text)

-- the first line, empty where there is none
abbrev pub first_of : List (List ℕ) → List ℕ
first_of [] = []
first_of (line ∷ lines) = line
