-- Rising lists of ids, and of pairs of ids.
use Rattle.std.specs.Prelude.{ℕ, Bool, true, ◌&&◌, ◌||◌, ◌==◌, nat_lt, List, [], ◌∷◌}
use Rattle.std.specs.List.{list_any, list_all}

-- each id is below those after it
abbrev pub ids_rise : List ℕ → Bool
ids_rise [] = true
ids_rise (i ∷ ids) = list_all (nat_lt i) ids && ids_rise ids

-- the pair stands in the list
abbrev pub has_pair : List (ℕ × ℕ) → ℕ → ℕ → Bool
has_pair pairs o p = list_any (λ x. (x.0 == o) && (x.1 == p)) pairs

-- the pair is below another: by the first, and then by the second
abbrev pub is_before : ℕ × ℕ → ℕ × ℕ → Bool
is_before a b = nat_lt a.0 b.0 || ((a.0 == b.0) && nat_lt a.1 b.1)

-- each pair is below those after it
abbrev pub pairs_rise : List (ℕ × ℕ) → Bool
pairs_rise [] = true
pairs_rise (a ∷ rest) = list_all (is_before a) rest && pairs_rise rest
