-- A text up to a byte, and after it.
use Rattle.std.proofs.Common.{◌≡◌, ℕ, zero, suc, ◌+◌, ◌<◌, Bool, true, false, eqb, eq-eqb, List, [], ◌∷◌, ◌++◌, length, take, drop, refl, ap, arith}
use Rattle.std.proofs.lemmas.Bool.{eqb-true}
use Rattle.memchr.specs.Find.{Nowhere, NoneBefore, Passes, is_byte}
use Rattle.text_words.proofs.Split.{cond_false}
use Rattle.text_words.specs.Lacks.{lacks}

-- where a line ends
pub record Ends (c : ℕ) (bytes : List ℕ) (i : ℕ) : Type 0 where
  pub within : i < length bytes
  pub lacks_it : lacks c (take i bytes) ≡ true
  pub parts : bytes ≡ take i bytes ++ c ∷ drop (i + 1) bytes

end_here : (c : ℕ) (x : ℕ) (bytes : List ℕ) → eqb x c ≡ true → Ends c (x ∷ bytes) 0
end_here c x bytes e = let same : x ≡ c = eqb-true x c e in record { within = omega arith; lacks_it = refl; parts = rw same refl }

end_further : (c : ℕ) (x : ℕ) (bytes : List ℕ) (i : ℕ) → eqb x c ≡ false → Ends c bytes i → Ends c (x ∷ bytes) (suc i)
end_further c x bytes i e h =
    let k : suc i + 1 ≡ suc (i + 1) = omega arith in
    record {
      within = let w = h.within in omega arith;
      lacks_it = rw e h.lacks_it;
      parts = rw k (ap (λ (rest : List ℕ). x ∷ rest) h.parts);
    }

not_true : (b : Bool) → (b ≡ true → ⊥) → b ≡ false
not_true true other = absurd (other refl)
not_true false other = refl

ends_at : (c : ℕ) (bytes : List ℕ) (i : ℕ) → i < length bytes → ((k : ℕ) → k < i → Passes (is_byte c) bytes k → ⊥) → Passes (is_byte c) bytes i → Ends c bytes i
ends_at c [] i lt before here = absurd (omega arith)
ends_at c (x ∷ bytes) zero lt before here = end_here c x bytes here
ends_at c (x ∷ bytes) (suc i) lt before here =
    end_further c x bytes i (not_true (eqb x c) (before 0 (omega arith))) (ends_at c bytes i (omega arith) (λ k less. before (suc k) (omega arith)) here)

pub end_at : (c : ℕ) (bytes : List ℕ) (i : ℕ) → NoneBefore (Passes (is_byte c) bytes) 0 (length bytes) i → Passes (is_byte c) bytes i → Ends c bytes i
end_at c bytes i none here = ends_at c bytes i none.high (λ k less. none.before k (omega arith) less) here

no_end_at : (c : ℕ) (bytes : List ℕ) → ((k : ℕ) → k < length bytes → Passes (is_byte c) bytes k → ⊥) → lacks c bytes ≡ true
no_end_at c [] none = refl
no_end_at c (x ∷ bytes) none = rw (not_true (eqb x c) (none 0 (omega arith))) (no_end_at c bytes (λ k less. none (suc k) (omega arith)))

pub no_end : (c : ℕ) (bytes : List ℕ) → Nowhere (Passes (is_byte c) bytes) 0 (length bytes) → lacks c bytes ≡ true
no_end c bytes none = no_end_at c bytes (λ k less. none k (omega arith) less)

-- a byte that stands in a text
pub not_in : (c : ℕ) (a x : List ℕ) → lacks c (a ++ c ∷ x) ≡ true → ⊥
not_in c [] x h = let p = (cond_false (eqb c c) (lacks c x) h).0 in let q = eq-eqb c c refl in cc
not_in c (b ∷ a) x h = not_in c a x (cond_false (eqb b c) (lacks c (a ++ c ∷ x)) h).1
