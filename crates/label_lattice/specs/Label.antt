-- What a label is, which labels can be stored, and the level of each category.
use Rattle.std.specs.Prelude.{◌≢◌, ℕ, ◌==◌, ◌||◌, ◌≤◌, Bool, List, length}
use Rattle.base.specs.Level.{rank_of}
use Rattle.base.specs.declared.levels.Level.{Level}
use Rattle.base.specs.declared.levels.Level.TheVariants.{Star}
use Rattle.label_lattice.specs.declared.pairings.Pair.{Pair}
use Rattle.label_lattice.specs.Levels.{level_at, any_star, IsRising, DiffersFrom}

-- a label: its default, and its exceptions by rising category
pub record LabelValue : Type 0 where
  pub default_level : Level
  pub exceptions : List Pair

-- the level of a category
abbrev pub level : LabelValue → ℕ → Level
level l c = level_at l.default_level l.exceptions c

-- a category has star
abbrev pub has_star : LabelValue → Bool
has_star l = rank_of l.default_level == 0 || any_star l.exceptions

-- the label can be stored
pub record IsStored (l : LabelValue) : Type 0 where
  pub owned_by_none : l.default_level ≢ Star
  pub few : length l.exceptions ≤ 16
  pub rising : IsRising l.exceptions
  pub differing : DiffersFrom l.default_level l.exceptions
