-- What is made of arguments, and of texts.
use Rattle.std.specs.Prelude.{◌≡◌, ℕ, List, Bool, true, false, Option, Some, None}
use Rattle.text_words.specs.declared.spoken_calls.args.Arg.{Arg}
use Rattle.dump_text.specs.declared.words.Word.{Word}
use Rattle.dump_text.specs.Word.{args_of}

-- What was made is a value with these words, and it is allowed. Nothing is made only where no such
-- value has them.
abbrev pub Makes : {V : Type 0} → (V → List Word) → (V → Type 0) → List Arg → Option V → Type 0
Makes words Allows found (Some v) = (found ≡ args_of (words v)) × Allows v
Makes {V} words Allows found None = (v : V) → Allows v → found ≡ args_of (words v) → ⊥

-- A value that the word spells was filled in, or the word spells none.
abbrev pub Fills : {V : Type 0} → (V → List ℕ) → (V → Type 0) → List ℕ → V → Bool → Type 0
Fills text Fits word v true = Fits v × (word ≡ text v)
Fills {V} text Fits word v false = (w : V) → Fits w → word ≡ text w → ⊥
