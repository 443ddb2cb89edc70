-- Labels as callers hand them in: which are bad, and as what label the others are stored.
use Rattle.std.specs.Prelude.{ℕ, ◌==◌, ◌||◌, ◌&&◌, not, Bool, false, suc, nat_lt, List, [], ◌∷◌}
use Rattle.std.specs.Prelude.{Option, Some, None, if◌then◌else◌}
use Rattle.std.specs.List.{list_all, list_any}
use Rattle.base.specs.declared.levels.Level.{Level}
use Rattle.base.specs.Level.{rank_of}
use Rattle.label_lattice.specs.declared.pairings.Pair.{Pair}
use Rattle.label_lattice.specs.declared.raw_labels.RawLabel.{RawLabel}
use Rattle.label_lattice.specs.Levels.{any_star}
use Rattle.label_lattice.specs.Label.{LabelValue}
use Rattle.label_lattice.specs.Placed.{placed}

-- a category stands in the list twice
abbrev pub has_twice : List Pair → Bool
has_twice [] = false
has_twice (p ∷ ps) = list_any (λ q. q.category.0 == p.category.0) ps || has_twice ps

-- how many pairs differ from the default
abbrev pub differing : Level → List Pair → ℕ
differing default [] = 0
differing default (p ∷ ps) =
    if rank_of p.level == rank_of default then differing default ps else suc (differing default ps)

-- the raw label is none that can be stored: its default is star, a category stands in it twice, or
-- more than 16 pairs differ from the default
abbrev pub is_bad : RawLabel → Bool
is_bad raw =
    rank_of raw.default == 0 || (has_twice raw.pairs || nat_lt 16 (differing raw.default raw.pairs))

-- the category is from 1 and below the next one
abbrev pub is_made : ℕ → Pair → Bool
is_made next p = nat_lt 0 p.category.0 && nat_lt p.category.0 next

-- each category of the list was made before the next one
abbrev pub all_made : ℕ → List Pair → Bool
all_made next ps = list_all (is_made next) ps

-- the raw label is bad, or names a category that was not made before the next one
abbrev pub is_bad_below : ℕ → RawLabel → Bool
is_bad_below next raw = is_bad raw || not (all_made next raw.pairs)

-- the default or a pair has star
abbrev pub raw_has_star : RawLabel → Bool
raw_has_star raw = rank_of raw.default == 0 || any_star raw.pairs

-- the exceptions after each pair was given its level in turn
abbrev pub collected : Level → List Pair → List Pair → List Pair
collected default [] found = found
collected default (p ∷ ps) found = collected default ps (placed default p found)

-- the exceptions of the pairs, unless a category stands twice or more than 16 pairs differ
abbrev pub collected_all : Level → List Pair → Option (List Pair)
collected_all default ps =
    if has_twice ps || nat_lt 16 (differing default ps) then None
    else Some (collected default ps [])

-- the label that is stored
abbrev pub stored_of : RawLabel → LabelValue
stored_of raw = record {
  default_level = raw.default;
  exceptions = collected raw.default raw.pairs [];
}

-- a label as its holder would hand it in
abbrev pub raw_of : LabelValue → RawLabel
raw_of l = record { default = l.default_level; pairs = l.exceptions }
