-- The lines of a text, and the name that a line binds.
use Rattle.std.specs.Prelude.{ℕ, zero, suc, ◌+◌, ◌==◌, ◌&&◌, List, [], ◌∷◌, Option, Some, None, Bool, false, if◌then◌else◌}
use Rattle.std.specs.Str.{bytes_eq}

-- what stands before the first such byte
abbrev pub before_byte : ℕ → List ℕ → List ℕ
before_byte byte [] = []
before_byte byte (x ∷ xs) = if x == byte then [] else x ∷ before_byte byte xs

-- and after it
abbrev pub after_byte : ℕ → List ℕ → List ℕ
after_byte byte [] = []
after_byte byte (x ∷ xs) = if x == byte then xs else after_byte byte xs

-- what stands after the first n lines
abbrev pub after_lines : ℕ → List ℕ → List ℕ
after_lines zero text = text
after_lines (suc n) text = after_byte 10 (after_lines n text)

-- the text begins with an equals sign and a space
abbrev pub is_equals : List ℕ → Bool
is_equals [] = false
is_equals (x ∷ []) = false
is_equals (x ∷ y ∷ text) = x == 61 && y == 32

-- the name that a line binds
abbrev pub binding : List ℕ → Option (List ℕ)
binding line = if is_equals (after_byte 32 line) then Some (before_byte 32 line) else None

-- whether it is this name
abbrev pub is_it : List ℕ → Option (List ℕ) → Bool
is_it name None = false
is_it name (Some other) = bytes_eq other name

abbrev pub binds : List ℕ → List ℕ → Bool
binds name line = is_it name (binding line)

-- the first of the first n lines that binds the name, where these lines are numbered from a number
abbrev pub binding_line : ℕ → ℕ → List ℕ → List ℕ → Option ℕ
binding_line number zero name text = None
binding_line number (suc n) name text =
    if binds name (before_byte 10 text) then Some number
    else binding_line (number + 1) n name (after_byte 10 text)
