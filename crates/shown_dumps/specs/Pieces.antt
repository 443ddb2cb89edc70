-- The lines of a text, and the words of a line.
use Rattle.std.specs.Prelude.{ℕ, ◌==◌, List, [], ◌∷◌, ◌++◌, if◌then◌else◌}

-- what stands before each such byte, after the one before it; `begun` stands before the text
abbrev pub pieces_after : ℕ → List ℕ → List ℕ → List (List ℕ)
pieces_after byte begun [] = []
pieces_after byte begun (x ∷ xs) =
    if x == byte then begun ∷ pieces_after byte [] xs else pieces_after byte (begun ++ x ∷ []) xs

-- the lines of a text, each of which ends with LF
abbrev pub lines_of : List ℕ → List (List ℕ)
lines_of text = pieces_after 10 [] text

-- the words of a line, which single spaces part
abbrev pub words_of : List ℕ → List (List ℕ)
words_of line = pieces_after 32 [] (line ++ 32 ∷ [])
