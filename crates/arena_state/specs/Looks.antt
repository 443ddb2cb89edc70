-- What looks at objects cost in a pool of up to 1,024 slots.
use Rattle.std.specs.Prelude.{ℕ, ◌+◌, ◌*◌, ◌≤◌}
use Rattle.base.specs.Counts.{Counts}

-- so many looks add at most seven probes each
abbrev pub Looks : ℕ → Counts → Counts → Type 0
Looks n old new = new.probes ≤ old.probes + 7 * n
