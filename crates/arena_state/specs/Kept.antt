-- The labels that are stored, by index, and how they compare.
use Rattle.std.specs.Prelude.{◌≡◌, ℕ, true, Option, Some, option_map}
use Rattle.std.specs.Option.{option_and_then}
use Rattle.label_lattice.specs.Bits.{bits_of}
use Rattle.label_lattice.specs.Label.{LabelValue}
use Rattle.label_intern.specs.Held.{held_at}
use Rattle.kernel_rules.specs.Scratch.{is_stored_in, stored_labels}
use Rattle.kernel_rules.specs.State.{State}
use Rattle.arena_state.specs.declared.states.ArenaState.{ArenaState}

-- the label of an index, if it has one
abbrev pub label_kept : ArenaState → ℕ → Option LabelValue
label_kept a i = option_map (λ h. h.label) (held_at a.pieces.holdings.labels i)

-- how the labels of two indexes compare, if both have one
abbrev pub order_kept : ArenaState → ℕ → ℕ → Option ℕ
order_kept a i j =
    option_and_then (λ l. option_map (λ m. bits_of l m) (label_kept a j)) (label_kept a i)

-- a state stores a label: a live object has it as its label, its clearance or its verify label
abbrev pub Stores : State → LabelValue → Type 0
Stores s l = is_stored_in l (stored_labels s.objects) ≡ true

-- the labels of indexes are those that the state stores: each has one index, and no other label has one
pub record AreStored (s : State) (kept : ℕ → Option LabelValue) : Type 0 where
  pub stored : (i : ℕ) (l : LabelValue) → kept i ≡ Some l → Stores s l
  pub all : (l : LabelValue) → Stores s l → (i : ℕ) × (kept i ≡ Some l)
  pub once : (i j : ℕ) (l : LabelValue) → kept i ≡ Some l → kept j ≡ Some l → i ≡ j
