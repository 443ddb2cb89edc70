-- How far a list was seen.
use Rattle.std.specs.Prelude.{◌≡◌, ◌+◌, ◌*◌, ◌≤◌, length}
use Rattle.std.specs.Arc.{arc_value}
use Rattle.shared_calls.specs.declared.cursors.Cursor.{Cursor}

-- the next place lies in the block, or right after it
pub record IsPlaced (cursor : Cursor) : Type 0 where
  pub list : (arc_value cursor.block).start.book ≡ cursor.seen.book
  pub count : cursor.count ≡ length cursor.seen.log
  pub at : cursor.count ≡ (arc_value cursor.block).number * 256 + cursor.at
  pub within : cursor.at ≤ 256
