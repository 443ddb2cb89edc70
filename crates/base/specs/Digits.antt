-- Truths as binary digits.
use Rattle.std.specs.Prelude.{ℕ, ◌+◌, ◌*◌, Bool, not, if◌then◌else◌}
use mathlib.Core.Bool.{beq}

-- 1 for what is in the set
abbrev pub bit : Bool → ℕ
bit b = if b then 1 else 0

-- digits with one more behind them
abbrev pub then_digit : ℕ → Bool → ℕ
then_digit n b = n * 2 + bit b

-- one of two, and not both
abbrev pub one_of : Bool → Bool → Bool
one_of a b = not (beq a b)
