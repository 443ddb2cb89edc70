-- The indexes of the stored labels by rising labels. No public clause cites this module.
use Rattle.std.specs.Prelude.{◌≡◌, ℕ, ◌<◌, ◌≤◌, List, Option, length, slice_index, IsSome}
use Rattle.std.specs.declared.cmp.Ordering.TheVariants.{Less}
use Rattle.label_lattice.specs.Label.{LabelValue}
use Rattle.label_lattice.specs.Listing.{label_cmp}
use Rattle.label_intern.specs.declared.held.Held.{Held}
use Rattle.label_intern.specs.Held.{held_at, label_of, stored}

-- a number stands in a list
abbrev pub Stands : List ℕ → ℕ → Type 0
Stands listed i = (k : ℕ) × (k < length listed) × (slice_index listed k ≡ i)

-- the indexes that have a label, each once, by rising labels
pub record IsListed (slots : List (Option Held)) (listed : List ℕ) : Type 0 where
  pub taken : (k : ℕ) → k < length listed → IsSome (held_at slots (slice_index listed k))
  pub all : (i : ℕ) → IsSome (held_at slots i) → Stands listed i
  pub rises : (j k : ℕ) → j < k → k < length listed
      → label_cmp (label_of slots (slice_index listed j)) (label_of slots (slice_index listed k))
      ≡ Less
  pub count : length listed ≡ stored slots

-- all labels that are listed before a place come before a label, and all from there on after it
pub record IsGap (slots : List (Option Held)) (listed : List ℕ) (l : LabelValue)
    (place : ℕ) : Type 0 where
  pub within : place ≤ length listed
  pub before : (k : ℕ) → k < place → label_cmp (label_of slots (slice_index listed k)) l ≡ Less
  pub after : (k : ℕ) → place ≤ k → k < length listed
      → label_cmp l (label_of slots (slice_index listed k)) ≡ Less
