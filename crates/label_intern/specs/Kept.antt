-- What is true of a pool of labels and its table. No public clause cites this module.
use Rattle.std.specs.Prelude.{◌≡◌, ℕ, List, Option, Some, length}
use Rattle.label_intern.specs.declared.held.Held.{Held}
use Rattle.label_intern.specs.declared.table.Table.{Table}
use Rattle.label_lattice.specs.Bits.{bits_of}
use Rattle.label_intern.specs.Held.{held_at, IsInterned}
use Rattle.label_intern.specs.Table.{cell}

-- the order bits of every two stored labels stand in the table
abbrev pub IsOrdered : List (Option Held) → Table → Type 0
IsOrdered slots t =
    (i j : ℕ) (g h : Held) → held_at slots i ≡ Some g → held_at slots j ≡ Some h
    → cell t i j ≡ bits_of g.label h.label

-- what is true of the stored labels
pub record IsKept (slots : List (Option Held)) (t : Table) : Type 0 where
  pub interned : IsInterned slots
  pub width : t.width ≡ length slots
  pub ordered : IsOrdered slots t
