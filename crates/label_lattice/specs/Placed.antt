-- A label after one category was given a level.
use Rattle.std.specs.Prelude.{ℕ, ◌==◌, suc, nat_lt, List, [], ◌∷◌, if◌then◌else◌}
use Rattle.base.specs.declared.levels.Level.{Level}
use Rattle.base.specs.Level.{rank_of}
use Rattle.label_lattice.specs.declared.pairings.Pair.{Pair}
use Rattle.label_lattice.specs.Label.{LabelValue}

-- how many pairs come before a category
abbrev pub place_in : ℕ → List Pair → ℕ
place_in c [] = 0
place_in c (q ∷ qs) = if nat_lt q.category.0 c then suc (place_in c qs) else 0

-- the pair before the rest, unless it has the default
abbrev pub kept : Level → Pair → List Pair → List Pair
kept default p rest = if rank_of p.level == rank_of default then rest else p ∷ rest

-- the list after a category was given a level
abbrev pub placed : Level → Pair → List Pair → List Pair
placed default p [] = kept default p []
placed default p (q ∷ qs) =
    if nat_lt q.category.0 p.category.0 then q ∷ placed default p qs
    else kept default p (if q.category.0 == p.category.0 then qs else q ∷ qs)

-- the label after a category was given a level
abbrev pub with_level : LabelValue → Pair → LabelValue
with_level l p = record {
  default_level = l.default_level;
  exceptions = placed l.default_level p l.exceptions;
}
