-- Lists that are filled place by place.
use Rattle.std.proofs.Common.{◌≡◌, ℕ, zero, suc, ◌+◌, ◌<◌, List, [], ◌∷◌, ◌++◌, length, get_or, take, drop, set, Option, None, refl, sym, ap, ◌∙◌, arith}

-- a place is filled
filled_at : {X : Type 0} (xs ys : List (Option X)) (p : ℕ) → p < length xs → p < length ys
    → set (take p xs ++ drop p ys) p (get_or xs p None) ≡ take (suc p) xs ++ drop (suc p) ys
filled_at [] ys p lt lt' = absurd (omega (arith, lt))
filled_at (x ∷ xs) [] p lt lt' = absurd (omega (arith, lt'))
filled_at (x ∷ xs) (y ∷ ys) zero lt lt' = refl
filled_at {X} (x ∷ xs) (y ∷ ys) (suc p) lt lt' = ap (λ (zs : List (Option X)). x ∷ zs) (filled_at xs ys p (omega (arith, lt)) (omega (arith, lt')))

-- a place is as it was
kept_at : {X : Type 0} (xs ys : List (Option X)) (p : ℕ) → p < length xs → p < length ys → get_or xs p None ≡ get_or ys p None
    → take p xs ++ drop p ys ≡ take (suc p) xs ++ drop (suc p) ys
kept_at [] ys p lt lt' e = absurd (omega (arith, lt))
kept_at (x ∷ xs) [] p lt lt' e = absurd (omega (arith, lt'))
kept_at {X} (x ∷ xs) (y ∷ ys) zero lt lt' e = ap (λ (z : Option X). z ∷ ys) (sym e)
kept_at {X} (x ∷ xs) (y ∷ ys) (suc p) lt lt' e = ap (λ (zs : List (Option X)). x ∷ zs) (kept_at xs ys p (omega (arith, lt)) (omega (arith, lt')) e)

pub filled_next : {X : Type 0} (xs ys : List (Option X)) (p : ℕ) → p < length xs → p < length ys
    → set (take p xs ++ drop p ys) p (get_or xs p None) ≡ take (p + 1) xs ++ drop (p + 1) ys
filled_next xs ys p lt lt' =
    let one : suc p ≡ p + 1 = omega arith in
    filled_at xs ys p lt lt' ∙ ap (λ (n : ℕ). take n xs ++ drop n ys) one

pub kept_next : {X : Type 0} (xs ys : List (Option X)) (p : ℕ) → p < length xs → p < length ys → get_or xs p None ≡ get_or ys p None
    → take p xs ++ drop p ys ≡ take (p + 1) xs ++ drop (p + 1) ys
kept_next xs ys p lt lt' e =
    let one : suc p ≡ p + 1 = omega arith in
    kept_at xs ys p lt lt' e ∙ ap (λ (n : ℕ). take n xs ++ drop n ys) one
