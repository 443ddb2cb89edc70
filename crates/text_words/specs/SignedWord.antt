-- The spelling of numbers with a sign.
use Rattle.std.specs.Prelude.{ℕ, ℤ, pos, negsuc, ◌+◌, List, ◌∷◌, decimal}
use Rattle.std.specs.Int.RustNames.{FitsSigned}
use Rattle.std.specs.Int.{w32}

-- a number, or a dash and a number that isn't 0
abbrev pub signed_text : ℤ → List ℕ
signed_text (pos n) = decimal n
signed_text (negsuc n) = 45 ∷ decimal (n + 1)

-- the number is of 32 bits
abbrev pub IsSigned : ℤ → Type 0
IsSigned z = FitsSigned w32 z
