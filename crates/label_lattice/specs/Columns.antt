-- How a short list of pairs lies in two arrays.
use Rattle.std.specs.Prelude.{ℕ, ◌-◌, ◌==◌, ◌&&◌, ◌++◌, Bool, List, length, map, replicate}
use Rattle.std.specs.Prelude.{nat_lt, slice_index_or}
use Rattle.base.specs.declared.ids.Category.{Category}
use Rattle.base.specs.declared.levels.Level.{Level}
use Rattle.base.specs.declared.levels.Level.TheVariants.{Star}
use Rattle.label_lattice.specs.declared.pairings.Pair.{Pair}

-- what fills the places past the end
abbrev pub filler : Pair
filler = record { category = record { 0 = 0 }; level = Star }

-- the pair at a place is there and has the category
abbrev pub has_at : List Pair → ℕ → ℕ → Bool
has_at ps place c =
    nat_lt place (length ps) && (slice_index_or ps place filler).category.0 == c

-- a part of each pair, and past the end that of the filler
abbrev pub column : {A : Type 0} → (Pair → A) → ℕ → List Pair → List A
column part n ps = map part ps ++ replicate (n - length ps) (part filler)

-- the categories of an array
abbrev pub categories_of : ℕ → List Pair → List Category
categories_of n ps = column (λ p. p.category) n ps

-- the levels of an array
abbrev pub levels_of : ℕ → List Pair → List Level
levels_of n ps = column (λ p. p.level) n ps
