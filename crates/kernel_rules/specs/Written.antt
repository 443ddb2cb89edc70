-- A list that is written over in part, and one of another length.
use Rattle.std.specs.Prelude.{ℕ, ◌+◌, ◌-◌, List, ◌++◌, length, take, drop, replicate}

-- the list with these in the place of as many from a on
abbrev pub written : {X : Type 0} → ℕ → List X → List X → List X
written a new old = take a old ++ new ++ drop (a + length new) old

-- bytes cut off or filled up with zeros to so many
abbrev pub resized : ℕ → List ℕ → List ℕ
resized n bytes = take n bytes ++ replicate (n - length bytes) 0
