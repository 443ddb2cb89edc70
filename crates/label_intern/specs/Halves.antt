-- What a search by halves adds to a meter.
use Rattle.std.specs.Prelude.{ℕ, ◌^◌, ◌≤◌}
use Rattle.base.specs.Counts.{Counts, ScansAtMost}

-- so few scans were added that 2 to their number is at most the bound
pub record ScansByHalves (bound : ℕ) (old new : Counts) : Type 0 where
  pub scans : ℕ
  pub counted : ScansAtMost scans old new
  pub few : 2 ^ scans ≤ bound
