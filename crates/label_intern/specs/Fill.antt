-- What is written for a label that is stored first. No public clause cites this module.
use Rattle.std.specs.Prelude.{◌≡◌, ◌≢◌, ℕ, List, Option, Some}
use Rattle.label_lattice.specs.Label.{LabelValue}
use Rattle.label_intern.specs.declared.held.Held.{Held}
use Rattle.label_intern.specs.declared.table.Table.{Table}
use Rattle.label_lattice.specs.Bits.{bits_of}
use Rattle.label_intern.specs.Held.{held_at}
use Rattle.label_intern.specs.Table.{cell}

-- the order of a label against itself and every stored label, and of these against it, was written,
-- and no other
pub record IsFilled (slots : List (Option Held)) (at : ℕ) (l : LabelValue) (old new : Table) : Type 0 where
  pub width : new.width ≡ old.width
  pub own : cell new at at ≡ bits_of l l
  pub forth : (j : ℕ) (h : Held) → held_at slots j ≡ Some h → cell new at j ≡ bits_of l h.label
  pub back : (j : ℕ) (h : Held) → held_at slots j ≡ Some h → cell new j at ≡ bits_of h.label l
  pub others : (i j : ℕ) → i ≢ at → j ≢ at → cell new i j ≡ cell old i j
