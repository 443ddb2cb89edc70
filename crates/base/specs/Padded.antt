-- How a short list fills an array.
use Rattle.std.specs.Prelude.{ℕ, ◌-◌, List, ◌++◌, length, replicate}

-- the list, and then copies of x up to n in all
abbrev pub padded : {A : Type 0} → ℕ → A → List A → List A
padded n x xs = xs ++ replicate (n - length xs) x
