-- What a meter counts.
use Rattle.std.specs.Prelude.{◌≡◌, ℕ, ◌+◌, ◌-◌, ◌≤◌, ◌^◌, min, max}

-- what a meter has counted
pub record Counts : Type 0 where
  pub scans : ℕ
  pub probes : ℕ

-- a new meter's counts
abbrev pub uncounted : Counts
uncounted = record { scans = 0; probes = 0 }

-- a count after n more: it stops at the largest number of 64 bits (a number past it, which no
-- meter has, would stay)
abbrev pub counted : ℕ → ℕ → ℕ
counted n count = max count (min (count + n) (2 ^ 64 - 1))

-- the counts after n more scans
abbrev pub scanned : ℕ → Counts → Counts
scanned n m = record { scans = counted n m.scans; probes = m.probes }

-- the counts after n more probes
abbrev pub probed : ℕ → Counts → Counts
probed n m = record { scans = m.scans; probes = counted n m.probes }

-- some scans were added, at most so many, and no probe
pub record ScansAtMost (most : ℕ) (old new : Counts) : Type 0 where
  pub no_fewer : old.scans ≤ new.scans
  pub no_more : new.scans ≤ old.scans + most
  pub probes : new.probes ≡ old.probes

-- some probes were added, at most so many, and no scan
pub record ProbesAtMost (most : ℕ) (old new : Counts) : Type 0 where
  pub no_fewer : old.probes ≤ new.probes
  pub no_more : new.probes ≤ old.probes + most
  pub scans : new.scans ≡ old.scans
