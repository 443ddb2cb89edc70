-- The exact form of a script that people write.
use Rattle.std.specs.Prelude.{ℕ, ◌+◌, ◌-◌, ◌^◌, ◌==◌, ◌&&◌, min, Bool, true, List, [], ◌∷◌, ◌++◌, if◌then◌else◌}
use Rattle.call_text.specs.Lines.{is_silent, plain_line}

-- what comes of a line: itself with its end, where it says something
abbrev pub line_text : List ℕ → List ℕ
line_text line = if is_silent line then [] else plain_line line ++ 10 ∷ []

-- and its number then
abbrev pub line_number : ℕ → List ℕ → List ℕ
line_number n line = if is_silent line then [] else n ∷ []

-- the rest of a text, whose first line begins with these bytes
abbrev pub text_from : List ℕ → List ℕ → List ℕ
text_from line [] = line_text line
text_from line (b ∷ rest) = if b == 10 then line_text line ++ text_from [] rest else text_from (line ++ b ∷ []) rest

-- the bytes of the exact form
abbrev pub plain_text : List ℕ → List ℕ
plain_text bytes = text_from [] bytes

-- the number of the line after one
abbrev pub next_number : ℕ → ℕ
next_number n = min (n + 1) (2 ^ 32 - 1)

-- the numbers of the lines that say something, in the rest of a text whose first line has this number
abbrev pub numbers_from : ℕ → List ℕ → List ℕ → List ℕ
numbers_from n line [] = line_number n line
numbers_from n line (b ∷ rest) =
    if b == 10 then line_number n line ++ numbers_from (next_number n) [] rest else numbers_from n (line ++ b ∷ []) rest

abbrev pub numbers_of : List ℕ → List ℕ
numbers_of bytes = numbers_from 1 [] bytes

-- numbers count from one on
abbrev pub counts_from : ℕ → List ℕ → Bool
counts_from n [] = true
counts_from n (m ∷ ms) = (m == n) && counts_from (n + 1) ms

-- they are kept where some line was dropped before another
abbrev pub kept_numbers : List ℕ → List ℕ
kept_numbers bytes = if counts_from 1 (numbers_of bytes) then [] else numbers_of bytes
