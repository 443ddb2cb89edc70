-- What a contract sees of lists of cells.
use Rattle.std.specs.Prelude.{◌≡◌, ℕ, ◌<◌, ◌≤◌, List, [], length, slice_index, slice_index_or}
use Rattle.std.specs.Prelude.{slice_set, replicate, remove, ◌++◌, ◌∷◌, refl}
use Rattle.std.specs.Coded.{Coded, code_by, coded×, coded_ℕ, coded_list}

-- how many cells there are, and for each head its list of cells
pub record Lists : Type 0 where
  pub cells : ℕ
  pub lists : List (List ℕ)

-- the list of a head
abbrev pub list_at : Lists → ℕ → List ℕ
list_at r head = slice_index_or r.lists head []

-- the same lists but for one
abbrev pub with_list : Lists → ℕ → List ℕ → Lists
with_list r head xs = record r { lists = slice_set r.lists head xs }

-- a cell at this place of a head's list goes to the end of another's
abbrev pub shifted : List (List ℕ) → ℕ → ℕ → ℕ → ℕ → List (List ℕ)
shifted lists head place to cell =
    let out = slice_set lists head (remove (slice_index_or lists head []) place) in
    slice_set out to (slice_index_or out to [] ++ cell ∷ [])

abbrev pub shifted_lists : Lists → ℕ → ℕ → ℕ → ℕ → Lists
shifted_lists r head place to cell = record r { lists = shifted r.lists head place to cell }

-- the cell stands at this place of this list
pub record StandsAt (xs : List ℕ) (place cell : ℕ) : Type 0 where
  pub within : place < length xs
  pub is : slice_index xs place ≡ cell

-- the cell stands somewhere in some list
abbrev pub IsLinked : Lists → ℕ → Type 0
IsLinked r cell = (head : ℕ) × (place : ℕ) × StandsAt (list_at r head) place cell

-- lists with no cell that lie in so many cells
abbrev pub empty_lists : ℕ → ℕ → Lists
empty_lists cells heads = record { cells = cells; lists = replicate heads [] }

-- the lists of one family of several
abbrev pub family_at : List Lists → ℕ → Lists
family_at r family = slice_index_or r family (empty_lists 0 0)

-- the list of a head in a family
abbrev pub cells_at : List Lists → ℕ → ℕ → List ℕ
cells_at r family head = list_at (family_at r family) head

-- the same lists but for one list of one family
abbrev pub with_cells : List Lists → ℕ → ℕ → List ℕ → List Lists
with_cells r family head xs = slice_set r family (with_list (family_at r family) head xs)

-- a list is stored as the pair of its fields
abbrev pub lists_code : Coded Lists
lists_code =
    code_by (ℕ × List (List ℕ)) (coded× coded_ℕ (coded_list (coded_list coded_ℕ)))
    (λ l. (l.cells, l.lists)) (λ p. record { cells = p.0; lists = p.1 }) (λ _. refl)

-- no cell stands twice, and each is in range
pub record IsWellFormed (r : Lists) : Type 0 where
  pub in_range : (head place cell : ℕ) → StandsAt (list_at r head) place cell → cell < r.cells
  pub one_head : (head other j k cell : ℕ) → StandsAt (list_at r head) j cell
      → StandsAt (list_at r other) k cell → head ≡ other
  pub one_place : (head j k cell : ℕ) → StandsAt (list_at r head) j cell
      → StandsAt (list_at r head) k cell → j ≡ k
  pub short : (head : ℕ) → length (list_at r head) ≤ r.cells
