-- What stands before and after the first such byte.
use Rattle.std.proofs.Common.{◌≡◌, ℕ, suc, ◌+◌, ◌-◌, ◌<◌, ◌==◌, eq-eqb, Bool, true, false, if◌then◌else◌, Some, List, [], ◌∷◌, ◌++◌, ap, refl, arith}
use Rattle.text_words.specs.Lacks.{lacks}
use Rattle.check_text.specs.Lines.{before_byte, after_byte, binding_line, binds}

before_step : (byte : ℕ) (ends : Bool) (x : ℕ) (told xs : List ℕ) → (if ends then false else lacks byte xs) ≡ true
    → (lacks byte xs ≡ true → told ≡ xs) → (if ends then [] else x ∷ told) ≡ x ∷ xs
before_step byte true x told xs h f = absurd (cc h)
before_step byte false x told xs h f = ap (λ (l : List ℕ). x ∷ l) (f h)

after_step : (byte : ℕ) (ends : Bool) (xs told left here : List ℕ) → (if ends then false else lacks byte xs) ≡ true
    → (lacks byte xs ≡ true → told ≡ left) → (if ends then here else told) ≡ left
after_step byte true xs told left here h f = absurd (cc h)
after_step byte false xs told left here h f = f h

-- an end stands after a part that has none
pub before_first : (byte : ℕ) (a b : List ℕ) → lacks byte a ≡ true → before_byte byte (a ++ byte ∷ b) ≡ a
before_first byte [] b h = rw (eq-eqb byte byte refl) refl
before_first byte (x ∷ xs) b h = before_step byte (x == byte) x (before_byte byte (xs ++ byte ∷ b)) xs h (before_first byte xs b)

pub after_first : (byte : ℕ) (a b : List ℕ) → lacks byte a ≡ true → after_byte byte (a ++ byte ∷ b) ≡ b
after_first byte [] b h = rw (eq-eqb byte byte refl) refl
after_first byte (x ∷ xs) b h = after_step byte (x == byte) xs (after_byte byte (xs ++ byte ∷ b)) b (xs ++ byte ∷ b) h (after_first byte xs b)

-- there is none
pub before_none : (byte : ℕ) (a : List ℕ) → lacks byte a ≡ true → before_byte byte a ≡ a
before_none byte [] h = refl
before_none byte (x ∷ xs) h = before_step byte (x == byte) x (before_byte byte xs) xs h (before_none byte xs)

pub after_none : (byte : ℕ) (a : List ℕ) → lacks byte a ≡ true → after_byte byte a ≡ []
after_none byte [] h = refl
after_none byte (x ∷ xs) h = after_step byte (x == byte) xs (after_byte byte xs) [] xs h (after_none byte xs)

-- one line of those that are left
pub one_more : (count i : ℕ) (name rest : List ℕ) → i < count
    → binding_line (i + 1) (count - i) name rest
    ≡ (if binds name (before_byte 10 rest) then Some (i + 1) else binding_line ((i + 1) + 1) (count - (i + 1)) name (after_byte 10 rest))
one_more count i name rest lt = let n : count - i ≡ suc (count - (i + 1)) = omega arith in rw n refl
