-- Two lists that are compared place by place.
use Rattle.std.proofs.Common.{◌≡◌, ℕ, zero, suc, List, [], ◌∷◌, length, drop, refl, arith, min, sym, ap, ◌∙◌, inl, inr}
use Rattle.std.specs.Cmp.{nat_cmp_is}
use Rattle.std.specs.declared.cmp.Ordering.TheVariants.{Less, Equal, Greater}
use Rattle.std.proofs.lemmas.Bool.{cases_order}
use Rattle.std.specs.declared.cmp.Ordering.{Ordering}
use Rattle.std.specs.Ordering.{nat_cmp}
use Rattle.std.specs.Cmp.Lexicographic.{slice_cmp}

nat_cmp-suc : (m n : ℕ) → nat_cmp m n ≡ nat_cmp (suc m) (suc n)
nat_cmp-suc m n =
    elim (cases_order m n) [
      | inl same ↦ sym (nat_cmp_is m n Equal same) ∙ nat_cmp_is (suc m) (suc n) Equal (ap suc same)
      | inr apart ↦ elim apart [
        | inl below ↦
            sym (nat_cmp_is m n Less below) ∙ nat_cmp_is (suc m) (suc n) Less (omega (arith, below))
        | inr above ↦
            sym (nat_cmp_is m n Greater above)
            ∙ nat_cmp_is (suc m) (suc n) Greater (omega (arith, above))
      ]
    ]

-- where one of them ends
pub slice_cmp-end : {K : Type 0} (R : K → K → Ordering) (xs ys : List K) (i : ℕ)
    → i ≡ min (length xs) (length ys)
    → slice_cmp R (drop i xs) (drop i ys) ≡ nat_cmp (length xs) (length ys)
slice_cmp-end R [] [] i e =
    let z : i ≡ 0 = omega (arith, e) in rw z (nat_cmp_is 0 0 Equal refl)
slice_cmp-end R [] (y ∷ ys) i e =
    let z : i ≡ 0 = omega (arith, e) in rw z (nat_cmp_is 0 (suc (length ys)) Less (omega arith))
slice_cmp-end R (x ∷ xs) [] i e =
    let z : i ≡ 0 = omega (arith, e) in
    rw z (nat_cmp_is (suc (length xs)) 0 Greater (omega arith))
slice_cmp-end R (x ∷ xs) (y ∷ ys) zero e = absurd (omega (arith, e))
slice_cmp-end R (x ∷ xs) (y ∷ ys) (suc i) e =
    slice_cmp-end R xs ys i (omega (arith, e)) ∙ nat_cmp-suc (length xs) (length ys)
