-- The exact form of a line that people write.
use Rattle.std.specs.Prelude.{ℕ, ◌==◌, Bool, true, false, List, [], ◌∷◌, ◌++◌, if◌then◌else◌}
use Rattle.text_words.specs.DataWord.{data_text}

-- a line says nothing: it is empty, or begins with a #
abbrev pub is_silent : List ℕ → Bool
is_silent [] = true
is_silent (b ∷ line) = b == 35

-- the rest of a line, within quotes or not, and the text that stands before it there: a text in quotes becomes data, and a quote
-- that none closes stays
abbrev pub line_from : Bool → List ℕ → List ℕ → List ℕ
line_from false text [] = []
line_from true text [] = 34 ∷ text
line_from false text (b ∷ line) = if b == 34 then line_from true [] line else b ∷ line_from false [] line
line_from true text (b ∷ line) =
    if b == 34 then data_text text ++ line_from false [] line else line_from true (text ++ b ∷ []) line

-- each text in quotes as data
abbrev pub plain_line : List ℕ → List ℕ
plain_line line = line_from false [] line
