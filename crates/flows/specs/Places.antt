-- The place of an id in a rising list.
use Rattle.std.specs.Prelude.{ℕ, suc, nat_lt, List, [], ◌∷◌, if◌then◌else◌}

-- how many ids come before one
abbrev pub place_in : ℕ → List ℕ → ℕ
place_in o [] = 0
place_in o (i ∷ ids) = if nat_lt i o then suc (place_in o ids) else 0
