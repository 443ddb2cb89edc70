-- What is read of a word, for each kind of word.
use Rattle.std.specs.Prelude.{◌≡◌, ℕ, List, Option, Some, None}

-- What was read is a value that the word spells. Nothing is read only where the word spells none.
abbrev pub Reads : {V : Type 0} → (V → List ℕ) → (V → Type 0) → List ℕ → Option V → Type 0
Reads text Fits word (Some v) = Fits v × (word ≡ text v)
Reads {V} text Fits word None = (v : V) → Fits v → word ≡ text v → ⊥
