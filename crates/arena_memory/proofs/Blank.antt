-- Frames at boot, which are all free.
use Rattle.std.proofs.Common.{◌≡◌, ℕ, zero, suc, ◌+◌, ◌<◌, List, [], ◌∷◌, ◌++◌, map, length, get_or, replicate, refl, sym, ap, ◌∙◌, arith}
use Rattle.std.specs.List.{range_with_len, concat}
use Rattle.std.proofs.lemmas.List.{get_or-replicate, length-replicate, map-id}
use Rattle.std.proofs.lemmas.List.FromFn.{map-range_with_len_more, get_or-range_with_len, length-range_with_len}
use Rattle.std.proofs.lemmas.List.Folds.{sum_by-replicate}
use Rattle.std.proofs.lemmas.List.Sums.{sum_by-cons}
use Rattle.arena_memory.specs.Pages.{IsKept, frame_at, pages_from}

-- one number more
pub range_push : (n : ℕ) → range_with_len 0 (n + 1) ≡ range_with_len 0 n ++ n ∷ []
range_push n = sym (map-id (range_with_len 0 (n + 1))) ∙ map-range_with_len_more (λ (x : ℕ). x) 0 n n (omega arith) ∙ ap (λ (xs : List ℕ). xs ++ n ∷ []) (map-id (range_with_len 0 n))

blank_row : (n s : ℕ) → get_or (replicate {A = List ℕ} n []) s [] ≡ []
blank_row zero s = refl
blank_row (suc n) zero = refl
blank_row (suc n) (suc s) = blank_row n s

-- only the first list has frames
first_alone : (n i k : ℕ) → k < length (get_or (range_with_len 0 n ∷ replicate n []) i []) → (i ≡ 0) × (k < n)
first_alone n zero k lt = (refl, omega (arith, lt, length-range_with_len 0 n))
first_alone n (suc s) k lt = absurd (omega (arith, lt, ap length (blank_row n s)))

first_is : (n i k : ℕ) → k < length (get_or (range_with_len 0 n ∷ replicate n []) i []) → frame_at (range_with_len 0 n ∷ replicate n []) i k ≡ k
first_is n zero k lt = get_or-range_with_len 0 n k 0 (omega (arith, lt, length-range_with_len 0 n)) ∙ omega arith
first_is n (suc s) k lt = absurd (omega (arith, lt, ap length (blank_row n s)))

pub kept_blank : (n : ℕ) → IsKept (replicate n (replicate 256 0)) (replicate n []) (range_with_len 0 n)
kept_blank n = record {
  apart = λ i j k l lk ll e. (omega (arith, (first_alone n i k lk).0, (first_alone n j l ll).0), omega (arith, first_is n i k lk, first_is n j l ll, e));
  within = λ i k lt. omega (arith, first_is n i k lt, (first_alone n i k lt).1, length-replicate n (replicate {A = ℕ} 256 0));
  all = omega (arith, sum_by-cons length (range_with_len 0 n) (replicate n []), sum_by-replicate {X = List ℕ} length n [], length-range_with_len 0 n, length-replicate {A = List ℕ} n []);
  few = λ slot. omega (arith, ap length (blank_row n slot));
  blank = λ k lt.
      let less : k < n = omega (arith, lt, length-range_with_len 0 n) in
      ap (λ (i : ℕ). get_or (replicate n (replicate {A = ℕ} 256 0)) i []) (get_or-range_with_len 0 n k 0 less ∙ omega arith) ∙ get_or-replicate n k (replicate {A = ℕ} 256 0) [] less;
  whole = λ frame lt. ap length (get_or-replicate n frame (replicate {A = ℕ} 256 0) [] (omega (arith, lt, length-replicate n (replicate {A = ℕ} 256 0)))) ∙ length-replicate {A = ℕ} 256 0;
}

-- no slot has a page
pub blank_view : (frames : List (List ℕ)) (n : ℕ) → map (pages_from frames) (replicate n []) ≡ replicate n []
blank_view frames zero = refl
blank_view frames (suc n) = ap (λ (v : List (List (List ℕ))). [] ∷ v) (blank_view frames n)

-- nor a byte
pub blank_bytes : (n : ℕ) → map concat (replicate {A = List (List ℕ)} n []) ≡ replicate n []
blank_bytes zero = refl
blank_bytes (suc n) = ap (λ (v : List (List ℕ)). [] ∷ v) (blank_bytes n)
