-- How a sink counts the writes that failed.
use Rattle.std.specs.Prelude.{◌≡◌, ◌⊎◌, ℕ, ◌+◌, ◌-◌, ◌^◌, ◌<◌, ◌≤◌, ◌==◌, ◌&&◌, min, not, Bool, true, false, List, length, Result, Ok, Err}

-- the greatest count that is told
abbrev pub greatest : ℕ
greatest = 2 ^ 64 - 1

-- a write failed that ended with an error, or took none of a text that isn't empty
abbrev pub has_failed : {E : Type 0} → Result ℕ E → List ℕ → Bool
has_failed (Ok taken) text = (taken == 0) && not (length text == 0)
has_failed (Err _) text = true

-- the count after one more write, which failed or didn't
abbrev pub counted : Bool → ℕ → ℕ
counted true failures = min (failures + 1) greatest
counted false failures = failures

-- a count rose, or stands at its greatest
abbrev pub HasRisen : ℕ → ℕ → Type 0
HasRisen old new = (new ≤ greatest) × ((old < new) ⊎ (new ≡ greatest))

-- or it stayed
abbrev pub HasRisenOrStays : ℕ → ℕ → Type 0
HasRisenOrStays old new = (new ≡ old) ⊎ HasRisen old new
