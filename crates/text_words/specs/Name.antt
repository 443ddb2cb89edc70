-- Names.
use Rattle.std.specs.Prelude.{◌≡◌, ◌==◌, ◌&&◌, ◌||◌, Bool, true, false, ℕ, nat_le, List, [], ◌∷◌}
use Rattle.std.specs.Prelude.{length}
use Rattle.std.specs.List.{list_all}

-- a to z
abbrev pub is_letter : ℕ → Bool
is_letter b = nat_le 97 b && nat_le b 122

-- a to z, 0 to 9 and _
abbrev pub is_name_byte : ℕ → Bool
is_name_byte b = is_letter b || (nat_le 48 b && nat_le b 57) || b == 95

-- a letter, and then up to 15 letters, digits and underscores
abbrev pub is_name : List ℕ → Bool
is_name [] = false
is_name (b ∷ bytes) = is_letter b && nat_le (length bytes) 15 && list_all is_name_byte bytes

-- the bytes are a name
abbrev pub IsName : List ℕ → Type 0
IsName bytes = is_name bytes ≡ true

-- a name is its own spelling
abbrev pub name_text : List ℕ → List ℕ
name_text bytes = bytes
