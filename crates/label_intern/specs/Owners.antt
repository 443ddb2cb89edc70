-- How the owners of labels change.
use Rattle.std.specs.Prelude.{◌≡◌, ℕ, ◌+◌, ◌-◌, ◌<◌, ◌==◌, List, Option, length, is_some, slice_set}
use Rattle.std.specs.Prelude.{if◌then◌else◌}
use Rattle.label_intern.specs.declared.held.Held.{Held}
use Rattle.label_intern.specs.Held.{held_at, label_of, owners_in, fewer}

-- 1 where both are the same index
abbrev pub one_at : ℕ → ℕ → ℕ
one_at i j = if i == j then 1 else 0

-- from the old labels to the new ones each index got so many owners, and what had owners kept its
-- label
pub record Takes (old new : List (Option Held)) (n : ℕ → ℕ) : Type 0 where
  pub owners : (i : ℕ) → owners_in (held_at new i) ≡ owners_in (held_at old i) + n i
  pub labels : (i : ℕ) → 0 < owners_in (held_at old i) → label_of new i ≡ label_of old i
  pub pool : length new ≡ length old

-- from the old labels to the new ones so many owners went of each index, and what has owners yet
-- kept its label
pub record Lets (old new : List (Option Held)) (n : ℕ → ℕ) : Type 0 where
  pub owners : (i : ℕ) → owners_in (held_at new i) ≡ owners_in (held_at old i) - n i
  pub labels : (i : ℕ) → 0 < owners_in (held_at new i) → label_of new i ≡ label_of old i
  pub pool : length new ≡ length old

-- the labels, with one owner less at an index that has one
abbrev pub release_at : List (Option Held) → ℕ → List (Option Held)
release_at labels i =
    if is_some (held_at labels i) then slice_set labels i (fewer (held_at labels i)) else labels
