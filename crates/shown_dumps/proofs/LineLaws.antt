-- What stands before and after the first end of a line.
use Rattle.std.proofs.Common.{◌≡◌, ℕ, ◌==◌, Bool, true, false, if◌then◌else◌, List, [], ◌∷◌, ◌++◌, ap, refl}
use Rattle.text_words.specs.Lacks.{lacks}
use Rattle.shown_dumps.specs.Lines.{before_end, after_end}

before_step : (ends : Bool) (x : ℕ) (told xs : List ℕ) → (if ends then false else lacks 10 xs) ≡ true
    → (lacks 10 xs ≡ true → told ≡ xs) → (if ends then [] else x ∷ told) ≡ x ∷ xs
before_step true x told xs h f = absurd (cc h)
before_step false x told xs h f = ap (λ (l : List ℕ). x ∷ l) (f h)

after_step : (ends : Bool) (xs told left here : List ℕ) → (if ends then false else lacks 10 xs) ≡ true
    → (lacks 10 xs ≡ true → told ≡ left) → (if ends then here else told) ≡ left
after_step true xs told left here h f = absurd (cc h)
after_step false xs told left here h f = f h

-- an end stands after a part that has none
pub before_first : (a b : List ℕ) → lacks 10 a ≡ true → before_end (a ++ 10 ∷ b) ≡ a
before_first [] b h = refl
before_first (x ∷ xs) b h = before_step (x == 10) x (before_end (xs ++ 10 ∷ b)) xs h (before_first xs b)

pub after_first : (a b : List ℕ) → lacks 10 a ≡ true → after_end (a ++ 10 ∷ b) ≡ b
after_first [] b h = refl
after_first (x ∷ xs) b h = after_step (x == 10) xs (after_end (xs ++ 10 ∷ b)) b (xs ++ 10 ∷ b) h (after_first xs b)

-- there is none
pub before_none : (a : List ℕ) → lacks 10 a ≡ true → before_end a ≡ a
before_none [] h = refl
before_none (x ∷ xs) h = before_step (x == 10) x (before_end xs) xs h (before_none xs)

pub after_none : (a : List ℕ) → lacks 10 a ≡ true → after_end a ≡ []
after_none [] h = refl
after_none (x ∷ xs) h = after_step (x == 10) xs (after_end xs) [] xs h (after_none xs)
