-- The lines of a text.
use Rattle.std.specs.Prelude.{ℕ, ◌==◌, List, [], ◌∷◌, if◌then◌else◌, zero, suc}

-- what stands before the first end of a line
abbrev pub before_end : List ℕ → List ℕ
before_end [] = []
before_end (x ∷ xs) = if x == 10 then [] else x ∷ before_end xs

-- and after it
abbrev pub after_end : List ℕ → List ℕ
after_end [] = []
after_end (x ∷ xs) = if x == 10 then xs else after_end xs

-- what stands after the first n lines
abbrev pub after_lines : ℕ → List ℕ → List ℕ
after_lines zero text = text
after_lines (suc n) text = after_end (after_lines n text)
