-- What was read, once it is known whether something was.
use Rattle.std.proofs.Common.{◌≡◌, ℕ, List, Option, Some, None, subst}
use Rattle.text_words.specs.Reading.{Reads}

pub read_is : {V : Type 0} (text : V → List ℕ) (Fits : V → Type 0) (word : List ℕ) (r : Option V) (v : V) → r ≡ Some v → Reads text Fits word r → Fits v × (word ≡ text v)
read_is text Fits word r v e h = subst (λ x. Reads text Fits word x) e h

pub read_not : {V : Type 0} (text : V → List ℕ) (Fits : V → Type 0) (word : List ℕ) (r : Option V) → r ≡ None → Reads text Fits word r → (v : V) → Fits v → word ≡ text v → ⊥
read_not text Fits word r e h = subst (λ x. Reads text Fits word x) e h
