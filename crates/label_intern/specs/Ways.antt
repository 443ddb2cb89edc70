-- Half a byte for the order bits of two labels each way. No public clause cites this module.
use Rattle.std.specs.Prelude.{◌≡◌, ℕ, ◌/◌, ◌%◌, ◌==◌, slice_index_or, if◌then◌else◌}
use Rattle.label_lattice.specs.Label.{LabelValue}
use Rattle.label_lattice.specs.Bits.{bits_of}
use Rattle.label_intern.specs.declared.ways.TheConstants.{WAYS}

-- the half of a byte that a place has
abbrev pub half_of : ℕ → ℕ → ℕ
half_of byte place = if place % 2 == 0 then byte % 16 else byte / 16

-- the order bits that half a byte tells, and eight times those back
abbrev pub told_by : ℕ → ℕ
told_by half = slice_index_or WAYS half 0

-- two numbers are the order bits of two labels, of the one against the other and back
pub record AreWays (forth back : ℕ) : Type 0 where
  pub one : LabelValue
  pub other : LabelValue
  pub is_forth : forth ≡ bits_of one other
  pub is_back : back ≡ bits_of other one
