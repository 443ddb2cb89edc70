-- The places of pairs of indexes. No public clause cites this module.
use Rattle.std.specs.Prelude.{ℕ, ◌+◌, ◌*◌, ◌/◌, max, min}

-- how many pairs so many indexes make, each with itself too
abbrev pub pairs_of : ℕ → ℕ
pairs_of n = n * (n + 1) / 2

-- the place of two indexes among all pairs, in either order
abbrev pub place_of : ℕ → ℕ → ℕ
place_of i j = pairs_of (max i j) + min i j
