-- The label that stands in a record.
use Rattle.std.specs.Prelude.{ℕ, List, [], ◌∷◌, Option, Some, None, option_map, slice_get, take, nat_le, if◌then◌else◌}
use Rattle.std.specs.Option.{option_and_then}
use Rattle.base.specs.declared.levels.Level.{Level}
use Rattle.base.specs.declared.levels.Level.TheVariants.{Star, L0, L1, L2, L3}
use Rattle.label_lattice.specs.declared.pairings.Pair.{Pair}
use Rattle.label_lattice.specs.declared.raw_labels.RawLabel.{RawLabel}
use Rattle.call_records.specs.declared.records.LabelRecord.{LabelRecord}

-- the level of a number: 0 to 3, or 4 for star
abbrev pub level_of : ℕ → Option Level
level_of n = slice_get (L0 ∷ L1 ∷ L2 ∷ L3 ∷ Star ∷ []) n

-- the pair of a level's number and a category
abbrev pub pair_of : ℕ → ℕ → Option Pair
pair_of n c = option_map (λ l. record { category = record { 0 = c }; level = l }) (level_of n)

-- the pairs of the levels and the categories at the same places
abbrev pub pairs_of : List ℕ → List ℕ → Option (List Pair)
pairs_of [] cs = Some []
pairs_of (n ∷ ns) [] = Some []
pairs_of (n ∷ ns) (c ∷ cs) =
    option_and_then (λ p. option_map (λ ps. p ∷ ps) (pairs_of ns cs)) (pair_of n c)

-- the raw label of a record: none where there are over 24 pairs, or a number is no level
abbrev pub label_of : LabelRecord → Option RawLabel
label_of r =
    if nat_le r.count 24
    then option_and_then (λ d. option_map (λ ps. record { default = d; pairs = ps })
    (pairs_of (take r.count r.levels) r.categories)) (level_of r.default_level)
    else None
