-- Which links guarded containers have.
use Rattle.std.specs.Prelude.{◌≡◌, ℕ, ◌%◌, ◌<◌, List, true}
use Rattle.base.specs.Live.{links}

-- who lists something has an odd id, and what it lists that may list something has a larger id
abbrev pub IsLayered : List (ℕ × List ℕ) → Type 0
IsLayered lists = (a b : ℕ) → links lists a b ≡ true → (a % 2 ≡ 1) × (b % 2 ≡ 1 → a < b)
