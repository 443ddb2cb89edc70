-- What operators on the last digits do.
use Rattle.std.proofs.Common.{◌≡◌, ℕ, suc, ◌+◌, ◌-◌, ◌*◌, ◌^◌, ◌<◌, Bool, true, false, not, ◌&&◌, ◌||◌, ◌==◌, refl, sym, ◌∙◌, arith, inl, inr, true≢false}
use Rattle.std.proofs.lemmas.Bool.{cases_Bool, eqb-true, eq-eqb}
use Rattle.std.proofs.lemmas.Nat.{and_block, or_block, xor_block}
use Rattle.std.proofs.Math.Nat.{pow-suc}
use Rattle.std.specs.Int.RustNames.{bit_and, bit_or, bit_xor}
use mathlib.Core.Bool.{beq}
use Rattle.base.specs.Digits.{bit, then_digit, one_of}

small : (b : Bool) → bit b < 2 ^ 1
small true = omega arith
small false = omega arith

bit_both : (x y : Bool) → bit_and (bit x) (bit y) ≡ bit (x && y)
bit_both true true = refl
bit_both true false = refl
bit_both false y = refl

bit_either : (x y : Bool) → bit_or (bit x) (bit y) ≡ bit (x || y)
bit_either true true = refl
bit_either true false = refl
bit_either false y = refl

bit_one : (x y : Bool) → bit_xor (bit x) (bit y) ≡ bit (one_of x y)
bit_one true true = refl
bit_one true false = refl
bit_one false true = refl
bit_one false false = refl

pub and_then : (m n r : ℕ) (x y : Bool) → bit_and m n ≡ r → bit_and (then_digit m x) (then_digit n y) ≡ then_digit r (x && y)
and_then m n r x y e =
    and_block 1 m n (bit x) (bit y) (small x) (small y) ∙ (λ i. e i * 2 + bit_both x y i)

pub or_then : (m n r : ℕ) (x y : Bool) → bit_or m n ≡ r → bit_or (then_digit m x) (then_digit n y) ≡ then_digit r (x || y)
or_then m n r x y e =
    or_block 1 m n (bit x) (bit y) (small x) (small y) ∙ (λ i. e i * 2 + bit_either x y i)

pub xor_then : (m n r : ℕ) (x y : Bool) → bit_xor m n ≡ r → bit_xor (then_digit m x) (then_digit n y) ≡ then_digit r (one_of x y)
xor_then m n r x y e =
    xor_block 1 m n (bit x) (bit y) (small x) (small y) ∙ (λ i. e i * 2 + bit_one x y i)

eq_is : (p : Bool) (m n : ℕ) → (p ≡ true → m ≡ n) → (m ≡ n → p ≡ true) → p ≡ (m == n)
eq_is true m n f g = sym (eq-eqb m n (f refl))
eq_is false m n f g = elim (cases_Bool (m == n)) [
  | inl is ↦ absurd (true≢false (sym (g (eqb-true m n is))))
  | inr off ↦ sym off
]

pub eq_then : (m n : ℕ) (p x y : Bool) → p ≡ (m == n) → (p && beq x y) ≡ (then_digit m x == then_digit n y)
eq_then m n true true true e =
    let same = eqb-true m n (sym e) in
    eq_is true (then_digit m true) (then_digit n true) (λ _. omega (arith, same)) (λ _. refl)
eq_then m n true false false e =
    let same = eqb-true m n (sym e) in
    eq_is true (then_digit m false) (then_digit n false) (λ _. omega (arith, same)) (λ _. refl)
eq_then m n true true false e =
    eq_is false (then_digit m true) (then_digit n false) (λ h. absurd (true≢false (sym h))) (λ h. absurd (omega arith))
eq_then m n true false true e =
    eq_is false (then_digit m false) (then_digit n true) (λ h. absurd (true≢false (sym h))) (λ h. absurd (omega arith))
eq_then m n false true true e =
    eq_is false (then_digit m true) (then_digit n true) (λ h. absurd (true≢false (sym h)))
    (λ h. e ∙ eq-eqb m n (omega arith))
eq_then m n false false false e =
    eq_is false (then_digit m false) (then_digit n false) (λ h. absurd (true≢false (sym h)))
    (λ h. e ∙ eq-eqb m n (omega arith))
eq_then m n false true false e =
    eq_is false (then_digit m true) (then_digit n false) (λ h. absurd (true≢false (sym h))) (λ h. absurd (omega arith))
eq_then m n false false true e =
    eq_is false (then_digit m false) (then_digit n true) (λ h. absurd (true≢false (sym h))) (λ h. absurd (omega arith))

-- the other digits, and no digit beyond these
pub record AreOther (k m n : ℕ) : Type 0 where
  pub sum : n + m + 1 ≡ 2 ^ k

pub no_other : AreOther 0 0 0
no_other = record { sum = refl }

pub other_then : (k m n : ℕ) (b : Bool) → AreOther k m n → AreOther (suc k) (then_digit m b) (then_digit n (not b))
other_then k m n true h = record { sum = omega (arith, h.sum, pow-suc 2 k) }
other_then k m n false h = record { sum = omega (arith, h.sum, pow-suc 2 k) }

pub other_is : (k m n : ℕ) → AreOther k m n → n ≡ 2 ^ k - 1 - m
other_is k m n h = omega (arith, h.sum)

-- digits are those of one number alone
pub then_is : (m n : ℕ) (x y : Bool) → then_digit m x ≡ then_digit n y → (m ≡ n) × (x ≡ y)
then_is m n true true e = (omega (arith, e), refl)
then_is m n false false e = (omega (arith, e), refl)
then_is m n true false e = absurd (omega (arith, e))
then_is m n false true e = absurd (omega (arith, e))
