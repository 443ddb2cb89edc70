-- The short list of pairs that two arrays hold.
use Rattle.std.specs.Prelude.{◌≡◌, ℕ, ◌≤◌, List, [], ◌∷◌, length, take, refl}
use Rattle.base.specs.declared.ids.Category.{Category}
use Rattle.base.specs.declared.levels.Level.{Level}
use Rattle.label_lattice.specs.declared.pairings.Pair.{Pair}
use Rattle.label_lattice.specs.declared.pairings.Pairs.TheInside.{Inside}
use Rattle.label_lattice.specs.Columns.{categories_of, levels_of}

-- the category and the level at each place
abbrev pub paired : List Category → List Level → List Pair
paired [] ls = []
paired (c ∷ cs) [] = []
paired (c ∷ cs) (l ∷ ls) = record { category = c; level = l } ∷ paired cs ls

-- the items that the arrays hold
abbrev pub items_of : ℕ → List Category → List Level → List Pair
items_of len cs ls = take len (paired cs ls)

-- what is true of the fields
pub record IsFilled (n len : ℕ) (cs : List Category) (ls : List Level) : Type 0 where
  pub few : len ≤ n
  pub within : length (items_of len cs ls) ≡ len
  pub categories : categories_of n (items_of len cs ls) ≡ cs
  pub levels : levels_of n (items_of len cs ls) ≡ ls

-- the fields come back from the items
pub fields_of-items_of : (n : ℕ) (p : Inside n) → IsFilled n p.len p.categories p.levels
    → record {
      len = length (items_of p.len p.categories p.levels);
      categories = categories_of n (items_of p.len p.categories p.levels);
      levels = levels_of n (items_of p.len p.categories p.levels);
    }
    ≡ p
fields_of-items_of n p kept = rw (kept.categories, kept.levels, kept.within) refl
