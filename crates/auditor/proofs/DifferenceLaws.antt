-- Texts that differ nowhere are the same, and the lines in which texts differ that begin further down.
use Rattle.std.proofs.Common.{◌≡◌, ℕ, ◌+◌, Bool, true, false, inl, inr, ◌==◌, if◌then◌else◌}
use Rattle.std.proofs.Common.{List, [], ◌∷◌, Option, Some, None, refl, sym, ap, ◌∙◌, subst, arith}
use Rattle.std.specs.Prelude.{option_map}
use Rattle.std.proofs.lemmas.Bool.{eq-eqb}
use Rattle.std.proofs.lemmas.Bool.Decides.{eqb_tells}
use Rattle.auditor.specs.Verdict.{first_difference}

-- what is told of two texts whose first bytes are the same, or not
abbrev told : Bool → ℕ → ℕ → List ℕ → List ℕ → Option ℕ
told same n m xs ys = if same then first_difference m xs ys else Some n

pub none_same : (n : ℕ) (xs ys : List ℕ) → first_difference n xs ys ≡ None → xs ≡ ys
none_same n [] [] none = refl
none_same n [] (y ∷ ys) none = absurd (cc none)
none_same n (x ∷ xs) [] none = absurd (cc none)
none_same n (x ∷ xs) (y ∷ ys) none =
    let m = if x == 10 then n + 1 else n in
    elim (eqb_tells x y) as (λ _. x ∷ xs ≡ y ∷ ys) [
      | inl p ↦ cc (p.1, none_same m xs ys (subst (λ (b : Bool). told b n m xs ys ≡ None) p.0 none))
      | inr p ↦ absurd (cc (subst (λ (b : Bool). told b n m xs ys ≡ None) p.0 none))
    ]

same_none : (n : ℕ) (xs : List ℕ) → first_difference n xs xs ≡ None
same_none n [] = refl
same_none n (x ∷ xs) =
    let m = if x == 10 then n + 1 else n in
    subst (λ (b : Bool). told b n m xs xs ≡ None) (sym (eq-eqb x x refl)) (same_none m xs)

pub equal_none : (n : ℕ) (xs ys : List ℕ) → xs ≡ ys → first_difference n xs ys ≡ None
equal_none n xs ys same =
    subst (λ (zs : List ℕ). first_difference n xs zs ≡ None) same (same_none n xs)

-- texts that begin k lines further down differ k lines further down
pub differ_later : (k n : ℕ) (xs ys : List ℕ)
    → first_difference (n + k) xs ys ≡ option_map (λ (line : ℕ). line + k) (first_difference n xs ys)
differ_later k n [] [] = refl
differ_later k n [] (y ∷ ys) = refl
differ_later k n (x ∷ xs) [] = refl
differ_later k n (x ∷ xs) (y ∷ ys) =
    elim (x == y) as (λ (same : Bool). told same (n + k) (if x == 10 then n + k + 1 else n + k) xs ys
    ≡ option_map (λ (line : ℕ). line + k) (told same n (if x == 10 then n + 1 else n) xs ys)) [
      | true ↦ elim (x == 10) as (λ (ended : Bool). first_difference (if ended then n + k + 1 else n + k) xs ys
          ≡ option_map (λ (line : ℕ). line + k) (first_difference (if ended then n + 1 else n) xs ys)) [
            | true ↦ ap (λ (m : ℕ). first_difference m xs ys) (one_first k n) ∙ differ_later k (n + 1) xs ys
            | false ↦ differ_later k n xs ys
          ]
      | false ↦ refl
    ]
  where
    one_first : (k n : ℕ) → n + k + 1 ≡ (n + 1) + k
    one_first k n = omega arith
