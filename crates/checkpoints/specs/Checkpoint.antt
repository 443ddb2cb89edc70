-- What a checkpoint has, as lists.
use Rattle.std.specs.Prelude.{ℕ, List}
use Rattle.checkpoints.specs.declared.checkpoints.NextNumber.{NextNumber}
use Rattle.checkpoints.specs.declared.checkpoints.Recorded.{Recorded}

-- the next id and category, the objects, and the numbers of the next events that aren't 1
pub record Checkpoint : Type 0 where
  pub next_id : ℕ
  pub next_category : ℕ
  pub objects : List Recorded
  pub next : List NextNumber
