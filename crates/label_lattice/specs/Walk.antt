-- What the walk over exceptions answers, and what one step of it takes.
use Rattle.std.specs.Prelude.{◌≡◌, ◌≢◌, ℕ, Bool, List, IsTrue, slice_index_or, drop}
use Rattle.base.specs.declared.levels.Level.{Level}
use Rattle.label_lattice.specs.declared.pairings.Pair.{Pair}
use Rattle.label_lattice.specs.Columns.{filler}
use Rattle.label_lattice.specs.Levels.{level_at}

-- a test holds of the three levels of each category
abbrev pub HoldsEverywhere : (Level → Level → Level → Bool)
    → Level → List Pair → Level → List Pair → Level → List Pair → Type 0
HoldsEverywhere t da a db b dc c =
    (k : ℕ) → IsTrue (t (level_at da a k) (level_at db b k) (level_at dc c k))

-- a category is taken off the list, at its level, and all others keep theirs
pub record Takes
    (default : Level)
    (old : List Pair)
    (category : ℕ)
    (level : Level)
    (new : List Pair) : Type 0 where
  pub here : level_at default old category ≡ level
  pub gone : level_at default new category ≡ default
  pub others : (k : ℕ) → k ≢ category → level_at default old k ≡ level_at default new k

-- the category at a place
abbrev pub category_at : List Pair → ℕ → ℕ
category_at ps i = (slice_index_or ps i filler).category.0

-- one category is taken off two lists, at its levels
pub record TakesBoth
    (a_default : Level)
    (a : List Pair)
    (b_default : Level)
    (b : List Pair)
    (a_level b_level : Level)
    (a_new b_new : List Pair) : Type 0 where
  pub category : ℕ
  pub first : Takes a_default a category a_level a_new
  pub second : Takes b_default b category b_level b_new

-- what the walk over two lists keeps for a rule: whether it held so far, and what is left of the
-- lists, decide the answer
pub record ComparesOn (t : Level → Level → Level → Bool) (da db : Level) (a b : List Pair)
    (i j : ℕ) (r : Bool) : Type 0 where
  pub defaults : IsTrue r → IsTrue (t da db db)
  pub forth : IsTrue r → HoldsEverywhere t da (drop i a) db (drop j b) db (drop j b)
      → HoldsEverywhere t da a db b db b
  pub so_far : HoldsEverywhere t da a db b db b → IsTrue r
  pub back : HoldsEverywhere t da a db b db b
      → HoldsEverywhere t da (drop i a) db (drop j b) db (drop j b)
