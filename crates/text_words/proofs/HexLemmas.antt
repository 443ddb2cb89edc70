-- Data: its digits two by two.
use Rattle.std.proofs.Common.{◌≤◌, Bool, true, false, eqb, leb, ◌&&◌, ◌||◌, inl, inr, ◌⊎◌, ◌≡◌, ℕ, zero, suc, ◌+◌, ◌*◌, ◌/◌, ◌%◌, ◌<◌, List, [], ◌∷◌, ◌++◌, length, get_or, take, refl, ap, ◌∙◌, sym, subst, arith, append_assoc}
use Rattle.std.proofs.lemmas.List.{take_more}
use Rattle.hex.proofs.HexLemmas.{length-encode_with}
use Rattle.hex.specs.Hex.{encode_with, encode_lower, lower_digits, IsBytes}
use Rattle.std.proofs.lemmas.Bool.{eqb-true, eqb-false, leb-true}
use Rattle.text_words.proofs.Split.{both_true}

-- the two digits of the byte at i
pub record DigitsAt (text : List ℕ) (j b : ℕ) : Type 0 where
  pub high : get_or text j 0 ≡ get_or lower_digits (b / 16) 0
  pub low : get_or text (j + 1) 0 ≡ get_or lower_digits (b % 16) 0

pub digits_at : (v : List ℕ) (i j : ℕ) → j ≡ 2 * i → i < length v → DigitsAt (encode_lower v) j (get_or v i 0)
unfolding encode_with
digits_at [] i j e lt = absurd (omega arith)
digits_at (b ∷ v) zero zero e lt = record { high = refl; low = refl }
digits_at (b ∷ v) zero (suc j) e lt = absurd (omega arith)
digits_at (b ∷ v) (suc i) zero e lt = absurd (omega arith)
digits_at (b ∷ v) (suc i) (suc zero) e lt = absurd (omega arith)
digits_at (b ∷ v) (suc i) (suc (suc j)) e lt =
    let h = digits_at v i j (omega arith) (omega arith) in
    let k : suc (suc j) + 1 ≡ suc (suc (j + 1)) = omega arith in
    record { high = h.high; low = rw k h.low }

encoded_more : (v : List ℕ) (b : ℕ) → encode_lower (v ++ b ∷ []) ≡ encode_lower v ++ get_or lower_digits (b / 16) 0 ∷ get_or lower_digits (b % 16) 0 ∷ []
unfolding encode_with
encoded_more [] b = refl
encoded_more (x ∷ v) b = ap (λ (rest : List ℕ). get_or lower_digits (x / 16) 0 ∷ get_or lower_digits (x % 16) 0 ∷ rest) (encoded_more v b)

-- one more byte
pub byte_more : (word front out : List ℕ) (i high low : ℕ) → take (2 * i) word ≡ encode_lower front → 2 * i + 1 < length word → high < 16 → low < 16 → get_or word (2 * i) 0 ≡ get_or lower_digits high 0 → get_or word (2 * i + 1) 0 ≡ get_or lower_digits low 0
    → out ≡ front ++ (high * 16 + low) ∷ [] → take (2 * (i + 1)) word ≡ encode_lower out
byte_more word front out i high low before lt hb lb h l e =
    let n : 2 * (i + 1) ≡ 2 * i + 1 + 1 = omega arith in
    let d : (high * 16 + low) / 16 ≡ high = omega arith in
    let m : (high * 16 + low) % 16 ≡ low = omega arith in
    rw (n, take_more word (2 * i + 1) 0 lt, take_more word (2 * i) 0 (omega arith), before, h, l, e, encoded_more front (high * 16 + low), d, m)
    (append_assoc (encode_lower front) (get_or lower_digits high 0 ∷ []) (get_or lower_digits low 0 ∷ []))

digits_of : (word v : List ℕ) (n i : ℕ) → word ≡ encode_lower v → length word ≡ 2 * n → i < n → DigitsAt word (2 * i) (get_or v i 0)
digits_of word v n i e many lt =
    let len : length word ≡ 2 * length v = ap length e ∙ length-encode_with lower_digits v in
    subst (λ (x : List ℕ). DigitsAt x (2 * i) (get_or v i 0)) (sym e) (digits_at v i (2 * i) refl (omega arith))

-- a byte that is no digit stands in no data
pub no_high : (word v : List ℕ) (n i : ℕ) → length word ≡ 2 * n → i < n → ((d : ℕ) → d < 16 → get_or word (2 * i) 0 ≡ get_or lower_digits d 0 → ⊥) → IsBytes v → word ≡ encode_lower v → ⊥
no_high word v n i many lt none fits e = let b : get_or v i 0 < 256 = fits i in none (get_or v i 0 / 16) (omega arith) (digits_of word v n i e many lt).high

pub no_low : (word v : List ℕ) (n i : ℕ) → length word ≡ 2 * n → i < n → ((d : ℕ) → d < 16 → get_or word (2 * i + 1) 0 ≡ get_or lower_digits d 0 → ⊥) → IsBytes v → word ≡ encode_lower v → ⊥
no_low word v n i many lt none fits e = none (get_or v i 0 % 16) (omega arith) (digits_of word v n i e many lt).low

two : (b : Bool) → (b ≡ true) ⊎ (b ≡ false)
two true = inl refl
two false = inr refl

-- the test holds of each number below n
abbrev pub all_below : ℕ → (ℕ → Bool) → Bool
all_below zero p = true
all_below (suc n) p = p n && all_below n p

below_at : (n : ℕ) (p : ℕ → Bool) (k : ℕ) → all_below n p ≡ true → k < n → p k ≡ true
below_at zero p k all lt = absurd (omega arith)
below_at (suc n) p k all lt =
    let both = both_true (p n) (all_below n p) all in
    elim (two (eqb k n)) [
      | inl e ↦ let same : n ≡ k = sym (eqb-true k n e) in subst (λ (j : ℕ). p j ≡ true) same both.0
      | inr e ↦ let other = eqb-false k n e in below_at n p k both.1 (omega arith)
    ]

-- the table has each digit's value at its code, and 16 or more elsewhere
abbrev pub is_table : List ℕ → Bool
is_table t =
    all_below 256 (λ d. leb 16 (get_or t d 0) || eqb d (get_or lower_digits (get_or t d 0) 0))
    && all_below 16 (λ v. eqb (get_or t (get_or lower_digits v 0) 0) v)

either_true : (a b : Bool) → (a || b) ≡ true → a ≡ false → b ≡ true
either_true true b e other = absurd cc
either_true false b e other = e

below_false : (m n : ℕ) → n < m → leb m n ≡ false
below_false m n lt = no (leb m n) refl
  where
    no : (b : Bool) → leb m n ≡ b → b ≡ false
    no true e = let k = leb-true m n e in absurd (omega arith)
    no false e = refl

pub value_in : (t : List ℕ) (d : ℕ) → is_table t ≡ true → d < 256 → get_or t d 0 < 16 → d ≡ get_or lower_digits (get_or t d 0) 0
value_in t d table lt small =
    let at = below_at 256 (λ d. leb 16 (get_or t d 0) || eqb d (get_or lower_digits (get_or t d 0) 0)) d (both_true _ _ table).0 lt in
    eqb-true d (get_or lower_digits (get_or t d 0) 0) (either_true (leb 16 (get_or t d 0)) _ at (below_false 16 (get_or t d 0) small))

pub none_in : (t : List ℕ) (d v : ℕ) → is_table t ≡ true → 16 ≤ get_or t d 0 → v < 16 → d ≡ get_or lower_digits v 0 → ⊥
none_in t d v table large lt e =
    let at = eqb-true (get_or t (get_or lower_digits v 0) 0) v (below_at 16 (λ v. eqb (get_or t (get_or lower_digits v 0) 0) v) v (both_true (all_below 256 (λ d. leb 16 (get_or t d 0) || eqb d (get_or lower_digits (get_or t d 0) 0))) _ table).1 lt) in
    let same : get_or t d 0 ≡ v = ap (λ (k : ℕ). get_or t k 0) e ∙ at in
    omega arith
