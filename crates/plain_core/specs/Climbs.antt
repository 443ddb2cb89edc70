-- Rising lists, by neighbours.
use Rattle.std.specs.Prelude.{ℕ, Bool, true, ◌&&◌, nat_lt, List, [], ◌∷◌}

-- each key is above the one before it, and the first one above a
abbrev pub climbs : {X : Type 0} → (X → ℕ) → ℕ → List X → Bool
climbs key a [] = true
climbs key a (x ∷ xs) = nat_lt a (key x) && climbs key (key x) xs
