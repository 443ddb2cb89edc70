-- How the tree is read off the rings and the directory. No public clause cites this module.
use Rattle.std.specs.Prelude.{◌≡◌, ℕ, suc, ◌+◌, ◌<◌, cond, List, [], ◌∷◌, map, length, slice_index}
use Rattle.std.specs.Prelude.{sum_by}
use Rattle.std.specs.List.{range_with_len}
use Rattle.containers.specs.Lists.{Lists, family_at, cells_at, with_list, empty_lists}
use Rattle.base.specs.Live.{has}
use Rattle.containers.specs.Cells.{IsSound, IsDying}
use Rattle.containers.specs.Sweep.{IsSimple}
use Rattle.containers.specs.Directory.{IsDirectory, IsListing}

-- the list, of those from this one on, in which the cell stands
abbrev pub head_in : List (List ℕ) → ℕ → ℕ
head_in [] c = 0
head_in (xs ∷ xss) c = cond (has xs c) 0 (suc (head_in xss c))

-- what the entries of a slot name
abbrev pub ids_of : List Lists → List ℕ → ℕ → List ℕ
ids_of r names slot = map (λ c. slice_index names (head_in (family_at r 1).lists c))
    (cells_at r 0 slot)

-- the ids of a directory, each with what its slot lists
abbrev pub lists_of : List Lists → List ℕ → List ℕ → List ℕ → List (ℕ × List ℕ)
lists_of r names [] slots = []
lists_of r names (i ∷ ids) [] = []
lists_of r names (i ∷ ids) (s ∷ slots) = (i, ids_of r names s) ∷ lists_of r names ids slots

-- what holds between calls
pub record IsKept (size root : ℕ) (r : List Lists) (names ids slots : List ℕ) : Type 0 where
  pub sound : IsSound size root r
  pub calm : (o : ℕ) → IsDying size r o → ⊥
  pub simple : IsSimple size r
  pub directory : IsDirectory size root r names ids slots
  -- each cell stands in a list
  pub full : sum_by length (family_at r 0).lists ≡ size
  pub fits : size + 2 < 18446744073709551616
  pub names_len : length names ≡ size
  pub root_id : slice_index names root ≡ 1

-- what holds of a draft: the same, but that some objects may be listed by none
pub record IsDrafted (size root : ℕ) (r : List Lists) (names ids slots : List ℕ) : Type 0 where
  pub sound : IsSound size root r
  pub calm : (o : ℕ) → IsDying size r o → ⊥
  pub simple : IsSimple size r
  pub listing : IsListing size root r names ids slots
  pub full : sum_by length (family_at r 0).lists ≡ size
  pub fits : size + 2 < 18446744073709551616
  pub names_len : length names ≡ size
  pub root_id : slice_index names root ≡ 1

-- the cells below n, spare, and no link
abbrev pub spare_below : ℕ → ℕ → List Lists
spare_below size n =
    with_list (empty_lists size (size + 2)) size (range_with_len 0 n)
    ∷ with_list (empty_lists size (size + 2)) size (range_with_len 0 n) ∷ []
