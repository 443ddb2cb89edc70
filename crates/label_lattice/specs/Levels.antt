-- What a list of pairs says of categories: their levels, which have star, and which are exceptions.
use Rattle.std.specs.Prelude.{ℕ, ◌==◌, ◌<◌, ◌≢◌, ◌-◌, ◌^◌, Bool, List, [], ◌∷◌, if◌then◌else◌}
use Rattle.std.specs.List.{list_any}
use Rattle.base.specs.Level.{rank_of}
use Rattle.base.specs.declared.levels.Level.{Level}
use Rattle.label_lattice.specs.declared.pairings.Pair.{Pair}

-- the level of a category, where the list has the exceptions from a default
abbrev pub level_at : Level → List Pair → ℕ → Level
level_at default [] c = default
level_at default (p ∷ ps) c = if p.category.0 == c then p.level else level_at default ps c

-- a pair has star
abbrev pub any_star : List Pair → Bool
any_star ps = list_any (λ p. rank_of p.level == 0) ps

-- every category of the list is above a number
abbrev pub IsAbove : ℕ → List Pair → Type 0
IsAbove m [] = Unit {0}
IsAbove m (p ∷ ps) = (m < p.category.0) × IsAbove m ps

-- the categories rise, so that each stands once
abbrev pub IsRising : List Pair → Type 0
IsRising [] = Unit {0}
IsRising (p ∷ ps) = IsAbove p.category.0 ps × IsRising ps

-- no level is the default
abbrev pub DiffersFrom : Level → List Pair → Type 0
DiffersFrom default [] = Unit {0}
DiffersFrom default (p ∷ ps) = (p.level ≢ default) × DiffersFrom default ps

-- the first category, and of no list the largest number
abbrev pub next_of : List Pair → ℕ
next_of [] = 2 ^ 64 - 1
next_of (p ∷ ps) = p.category.0
