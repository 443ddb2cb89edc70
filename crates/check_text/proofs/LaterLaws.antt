-- What is told of the lines after a faulty one, line by line.
use Rattle.std.proofs.Common.{◌≡◌, ℕ, zero, suc, ◌+◌, ◌==◌, ◌∙◌, Bool, true, false, List, [], ◌∷◌, ◌++◌, length, refl, sym, subst, arith}
use Rattle.std.proofs.lemmas.Bool.{eqb-true}
use Rattle.check_text.specs.Checks.{AreToldLater, IsToldLater}
use Rattle.check_text.specs.Lines.{before_byte, after_byte}

empty_later : (path numbers : List ℕ) (number n : ℕ) (text : List ℕ) → (length text == 0) ≡ true → AreToldLater path numbers number n text []
empty_later path numbers number zero text is = refl
empty_later path numbers number (suc n) [] is = refl
empty_later path numbers number (suc n) (b ∷ text) is = let e : length (b ∷ text) ≡ 0 = eqb-true (length (b ∷ text)) 0 is in absurd (omega (arith, e))

-- nothing is left
pub none_later : (path numbers : List ℕ) (number n : ℕ) (text : List ℕ) (is_empty : Bool) → is_empty ≡ (length text == 0) → is_empty ≡ true
    → AreToldLater path numbers number n text []
none_later path numbers number n text is_empty is on = empty_later path numbers number n text (sym is ∙ on)

some_later : (path numbers : List ℕ) (number n : ℕ) (text here later : List ℕ) → (length text == 0) ≡ false → IsToldLater path numbers number (before_byte 10 text) here
    → AreToldLater path numbers (number + 1) n (after_byte 10 text) later → AreToldLater path numbers number (suc n) text (here ++ later)
some_later path numbers number n [] here later is told then = absurd (cc is)
some_later path numbers number n (b ∷ text) here later is told then = (here, later, told, then, refl)

-- one line, and those after it
pub one_later : (path numbers : List ℕ) (number n m : ℕ) (text line more here later : List ℕ) (is_empty : Bool) → n ≡ suc m → is_empty ≡ (length text == 0) → is_empty ≡ false
    → line ≡ before_byte 10 text → more ≡ after_byte 10 text → IsToldLater path numbers number line here
    → AreToldLater path numbers (number + 1) m more later → AreToldLater path numbers number n text (here ++ later)
one_later path numbers number n m text line more here later is_empty left is off line_is more_is told then =
    rw left (some_later path numbers number m text here later (sym is ∙ off) (subst (λ (l : List ℕ). IsToldLater path numbers number l here) line_is told)
    (subst (λ (t : List ℕ). AreToldLater path numbers (number + 1) m t later) more_is then))
