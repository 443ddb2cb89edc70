-- For callers: what each list is after a change of one.
use Rattle.std.proofs.Common.{◌≡◌, ◌≢◌, ℕ, ◌<◌, List, [], length, ap, ◌∙◌, length-set, get_or-set_other, get_or-set_same}
use Rattle.containers.specs.Lists.{Lists, empty_lists, family_at, cells_at, with_cells, with_list, list_at}

module _ (r : List Lists) (family : ℕ) (in_families : family < length r) where
  pub family_at-with_cells : (head : ℕ) (xs : List ℕ) → family_at (with_cells r family head xs) family ≡ with_list (family_at r family) head xs
  family_at-with_cells head xs = get_or-set_same r family (with_list (family_at r family) head xs) (empty_lists 0 0) in_families

  pub cells_at-with_cells : (head : ℕ) (xs : List ℕ) → head < length (family_at r family).lists → cells_at (with_cells r family head xs) family head ≡ xs
  cells_at-with_cells head xs lt = ap (λ (l : Lists). list_at l head) (family_at-with_cells head xs) ∙ get_or-set_same (family_at r family).lists head xs [] lt

  pub cells_at-with_cells_other : (head other : ℕ) (xs : List ℕ) → other ≢ head → cells_at (with_cells r family head xs) family other ≡ cells_at r family other
  cells_at-with_cells_other head other xs ne = ap (λ (l : Lists). list_at l other) (family_at-with_cells head xs) ∙ get_or-set_other (family_at r family).lists head other xs [] ne

  pub heads_kept : (head : ℕ) (xs : List ℕ) → length (family_at (with_cells r family head xs) family).lists ≡ length (family_at r family).lists
  heads_kept head xs = ap (λ (l : Lists). length l.lists) (family_at-with_cells head xs) ∙ length-set (family_at r family).lists head xs

  pub cells_kept : (head : ℕ) (xs : List ℕ) → (family_at (with_cells r family head xs) family).cells ≡ (family_at r family).cells
  cells_kept head xs = ap (λ (l : Lists). l.cells) (family_at-with_cells head xs)

  pub families_kept : (head : ℕ) (xs : List ℕ) → length (with_cells r family head xs) ≡ length r
  families_kept head xs = length-set r family (with_list (family_at r family) head xs)
