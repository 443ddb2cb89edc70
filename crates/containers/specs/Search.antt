-- What a search reads. No public clause cites this module.
use Rattle.std.specs.Prelude.{ℕ, ◌-◌, ◌<◌, ◌≤◌, ◌^◌}

-- a place parts a range, so that so many reads find anything in it: one here, and the others in the
-- part before it or in the part after it
pub record Parts (low middle high reads : ℕ) : Type 0 where
  pub from : low ≤ middle
  pub to : middle < high
  pub some : 1 ≤ reads
  pub before : middle - low < 2 ^ (reads - 1)
  pub after : (high - middle) - 1 < 2 ^ (reads - 1)
