-- Sums over lists, and over lists of records.
use Rattle.std.proofs.Common.{◌≡◌, ◌<◌, ℕ, ◌+◌, ◌*◌, ◌==◌, ◌||◌, Bool, true, false, cond, not}
use Rattle.std.proofs.Common.{nat_lt, List, [], ◌∷◌, length, map, Some, is_some, sum_by, refl, sym}
use Rattle.std.proofs.Common.{◌∙◌, ap, subst, arith}
use Rattle.std.specs.List.{list_all}
use Rattle.std.specs.Ordering.{nat_cmp}
use Rattle.std.specs.Map.{lookup}
use Rattle.std.specs.BTreeMap.{is_at}
use Rattle.std.proofs.lemmas.Bool.{and_parts, both_ways, eqb-true, eq-eqb, ltb-true}
use Rattle.std.proofs.lemmas.List.Sums.{sum_by-cons}
use Rattle.base.specs.Live.{has}
use Rattle.kernel_rules.specs.WellFormed.{ids_rise, is_distinct}
use Rattle.kernel_rules.specs.declared.objects.Object.{Object}
use Rattle.kernel_rules.proofs.LookupLaws.{at_self}
use Rattle.kernel_rules.proofs.RecordLaws.{same_id}

-- one where it holds
abbrev pub once : Bool → ℕ
once b = cond b 1 0

zero_times : (n : ℕ) → 0 * n ≡ 0
zero_times n = omega arith

-- the same terms have the same sum
pub sum_same : {X : Type 0} (f g : X → ℕ) (xs : List X) → ((x : X) → f x ≡ g x) → sum_by f xs ≡ sum_by g xs
sum_same f g [] same = refl
sum_same f g (x ∷ xs) same =
    sum_by-cons f x xs ∙ (λ i. same x i + sum_same f g xs same i) ∙ sym (sum_by-cons g x xs)

pub sum_none : {X : Type 0} (f : X → ℕ) (xs : List X) → ((x : X) → f x ≡ 0) → sum_by f xs ≡ 0
sum_none f [] none = refl
sum_none f (x ∷ xs) none =
    let all = sum_by-cons f x xs in
    let here = none x in
    let rest = sum_none f xs none in
    omega arith

pub sum_plus : {X : Type 0} (f g : X → ℕ) (xs : List X)
    → sum_by (λ x. f x + g x) xs ≡ sum_by f xs + sum_by g xs
sum_plus f g [] = refl
sum_plus f g (x ∷ xs) =
    let all = sum_by-cons (λ x. f x + g x) x xs in
    let first = sum_by-cons f x xs in
    let second = sum_by-cons g x xs in
    let rest = sum_plus f g xs in
    omega arith

pub sum_map : {X Y : Type 0} (f : Y → ℕ) (g : X → Y) (xs : List X)
    → sum_by f (map g xs) ≡ sum_by (λ x. f (g x)) xs
sum_map f g [] = refl
sum_map f g (x ∷ xs) =
    sum_by-cons f (g x) (map g xs) ∙ ap (λ n. f (g x) + n) (sum_map f g xs)
    ∙ sym (sum_by-cons (λ x. f (g x)) x xs)

pub sum_times : {X : Type 0} (f : X → ℕ) (k : ℕ) (xs : List X) → sum_by (λ x. f x * k) xs ≡ sum_by f xs * k
sum_times f k [] = sym (zero_times k)
sum_times f k (x ∷ xs) =
    sum_by-cons (λ x. f x * k) x xs ∙ ap (λ n. f x * k + n) (sum_times f k xs)
    ∙ sym (spread (f x) (sum_by f xs) k) ∙ ap (λ n. n * k) (sym (sum_by-cons f x xs))
  where
    spread : (a b k : ℕ) → (a + b) * k ≡ a * k + b * k
    spread a b k = grind arith

-- a sum of sums, the other way round
pub sum_swap : {X Y : Type 0} (f : X → Y → ℕ) (xs : List X) (ys : List Y)
    → sum_by (λ x. sum_by (f x) ys) xs ≡ sum_by (λ y. sum_by (λ x. f x y) xs) ys
sum_swap f [] ys = sym (sum_none (λ y. sum_by (λ x. f x y) []) ys (λ y. refl))
sum_swap f (x ∷ xs) ys =
    sum_by-cons (λ x. sum_by (f x) ys) x xs ∙ ap (λ n. sum_by (f x) ys + n) (sum_swap f xs ys)
    ∙ sym (sum_plus (f x) (λ y. sum_by (λ x. f x y) xs) ys)
    ∙ sum_same (λ y. f x y + sum_by (λ x. f x y) xs) (λ y. sum_by (λ x. f x y) (x ∷ xs)) ys
    (λ y. sym (sum_by-cons (λ x. f x y) x xs))

pub length-sum : {X : Type 0} (xs : List X) → sum_by (λ x. 1) xs ≡ length xs
length-sum [] = refl
length-sum (x ∷ xs) =
    let all = sum_by-cons (λ x. 1) x xs in
    let rest = length-sum xs in
    omega arith

-- no record past i has i
none_at : (w : ℕ → ℕ) (i : ℕ) (es : List (ℕ × Object)) → list_all (λ f. nat_lt i f.0) es ≡ true
    → sum_by (λ f. once (f.0 == i) * w f.0) es ≡ 0
none_at w i [] h = refl
none_at w i (e ∷ es) h =
    let parts : (nat_lt i e.0 ≡ true) × (list_all (λ f. nat_lt i f.0) es ≡ true) =
    and_parts (nat_lt i e.0) (list_all (λ f. nat_lt i f.0) es) h in
    let all = sum_by-cons (λ f. once (f.0 == i) * w f.0) e es in
    let rest = none_at w i es parts.1 in
    let here : once (e.0 == i) * w e.0 ≡ 0 = ap (λ b. once b * w e.0) (other e.0 i parts.0)
    ∙ zero_times (w e.0) in
    omega arith
  where
    other : (a i : ℕ) → nat_lt i a ≡ true → (a == i) ≡ false
    other a i h = let less : i < a = ltb-true i a h in grind arith

-- one record has a recorded id
pub one_at : (w : ℕ → ℕ) (i : ℕ) (es : List (ℕ × Object)) → ids_rise es ≡ true
    → is_some (lookup (is_at (nat_cmp i)) es) ≡ true → sum_by (λ f. once (f.0 == i) * w f.0) es ≡ w i
one_at w i [] rise there = absurd (cc)
one_at w i (e ∷ es) rise there =
    let parts : (list_all (λ f. nat_lt e.0 f.0) es ≡ true) × (ids_rise es ≡ true) =
    and_parts (list_all (λ f. nat_lt e.0 f.0) es) (ids_rise es) rise in
    let all = sum_by-cons (λ f. once (f.0 == i) * w f.0) e es in
    elim (is_at (nat_cmp i) e.0)
    as (λ v. is_at (nat_cmp i) e.0 ≡ v → is_some (cond v (Some e.1) (lookup (is_at (nat_cmp i)) es)) ≡ true
    → sum_by (λ f. once (f.0 == i) * w f.0) (e ∷ es) ≡ w i) [
      | true ↦ λ near h.
          let on : i ≡ e.0 = same_id i e.0 near in
          let rest : sum_by (λ f. once (f.0 == i) * w f.0) es ≡ 0 =
          none_at w i es (subst (λ k. list_all (λ f. nat_lt k f.0) es ≡ true) (sym on) parts.0) in
          let here : once (e.0 == i) * w e.0 ≡ w i =
          ap (λ b. once b * w e.0) (eq-eqb e.0 i (sym on)) ∙ single (w e.0) ∙ ap w (sym on) in
          omega arith
      | false ↦ λ far h.
          let other : (e.0 == i) ≡ false = apart far in
          let rest = one_at w i es parts.1 h in
          let here : once (e.0 == i) * w e.0 ≡ 0 = ap (λ b. once b * w e.0) other ∙ zero_times (w e.0) in
          omega arith
    ] refl there
  where
    single : (n : ℕ) → 1 * n ≡ n
    single n = omega arith

    apart : is_at (nat_cmp i) e.0 ≡ false → (e.0 == i) ≡ false
    apart far =
        elim (e.0 == i) as (λ v. (e.0 == i) ≡ v → v ≡ false) [
          | true ↦ λ is.
              let on : e.0 ≡ i = eqb-true e.0 i is in
              absurd (both_ways (is_at (nat_cmp i) e.0) far
              (subst (λ k. is_at (nat_cmp i) k ≡ true) (sym on) (at_self i)))
          | false ↦ λ is. refl
        ] refl

-- the sum over distinct recorded ids is one over the records that they have
pub sum_listed : (w : ℕ → ℕ) (ids : List ℕ) (es : List (ℕ × Object)) → ids_rise es ≡ true
    → is_distinct ids ≡ true → list_all (λ i. is_some (lookup (is_at (nat_cmp i)) es)) ids ≡ true
    → sum_by w ids ≡ sum_by (λ f. once (has ids f.0) * w f.0) es
sum_listed w [] es rise distinct recorded = sym (sum_none (λ f. once (has [] f.0) * w f.0) es (λ f. zero_times (w f.0)))
sum_listed w (i ∷ ids) es rise distinct recorded =
    let apart : (not (has ids i) ≡ true) × (is_distinct ids ≡ true) =
    and_parts (not (has ids i)) (is_distinct ids) distinct in
    let there : (is_some (lookup (is_at (nat_cmp i)) es) ≡ true)
    × (list_all (λ i. is_some (lookup (is_at (nat_cmp i)) es)) ids ≡ true) =
    and_parts (is_some (lookup (is_at (nat_cmp i)) es))
    (list_all (λ i. is_some (lookup (is_at (nat_cmp i)) es)) ids) recorded in
    sum_by-cons w i ids
    ∙ (λ k. sym (one_at w i es rise there.0) k + sum_listed w ids es rise apart.1 there.1 k)
    ∙ sym (sum_plus (λ f. once (f.0 == i) * w f.0) (λ f. once (has ids f.0) * w f.0) es)
    ∙ sum_same (λ f. once (f.0 == i) * w f.0 + once (has ids f.0) * w f.0)
    (λ f. once (has (i ∷ ids) f.0) * w f.0) es (λ f. either f.0 (w f.0) apart.0)
  where
    true-not : (b : Bool) → not b ≡ true → b ≡ false
    true-not true h = absurd (cc)
    true-not false h = refl

    plain : (n : ℕ) → 1 * n + 0 * n ≡ 1 * n
    plain n = omega arith

    skip : (n m : ℕ) → 0 * n + m ≡ m
    skip n m = omega arith

    either : (o n : ℕ) → not (has ids i) ≡ true
        → once (o == i) * n + once (has ids o) * n ≡ once (has (i ∷ ids) o) * n
    either o n absent =
        elim (o == i)
        as (λ v. (o == i) ≡ v → once v * n + once (has ids o) * n ≡ once (v || has ids o) * n) [
          | true ↦ λ is.
              let on : o ≡ i = eqb-true o i is in
              let no : has ids o ≡ false = ap (has ids) on ∙ true-not (has ids i) absent in
              ap (λ b. 1 * n + once b * n) no ∙ plain n
          | false ↦ λ is. skip n (once (has ids o) * n)
        ] refl
