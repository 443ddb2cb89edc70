-- The cells of a table of orders. No public clause cites this module.
use Rattle.std.specs.Prelude.{◌≡◌, ℕ, ◌/◌, ◌%◌, List, get_or, nat_lt, if◌then◌else◌}
use Rattle.label_intern.specs.Pairs.{place_of}
use Rattle.label_intern.specs.Ways.{half_of, told_by}
use Rattle.label_intern.specs.declared.table.Table.{Table}

-- the half byte of a place
abbrev pub half_at : List ℕ → ℕ → ℕ
half_at cells place = half_of (get_or cells (place / 2) 0) place

-- the order bits of an index against another
unfoldable pub cell : Table → ℕ → ℕ → ℕ
cell t i j =
    let told = told_by (half_at t.cells.items (place_of i j)) in
    if nat_lt i j then told / 8 else told % 8

-- the two cells of two indexes against each other were written, and no others
pub record ChangesPair (old new : Table) (at other there here : ℕ) : Type 0 where
  pub width : new.width ≡ old.width
  pub forth : cell new at other ≡ there
  pub back : cell new other at ≡ here
  pub others : (i j : ℕ) → (((i ≡ at) × (j ≡ other)) → ⊥) → (((i ≡ other) × (j ≡ at)) → ⊥)
      → cell new i j ≡ cell old i j
