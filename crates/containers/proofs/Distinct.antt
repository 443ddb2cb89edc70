-- Sums over lists in which no number stands twice.
use Rattle.std.proofs.Common.{◌≡◌, ℕ, suc, ◌+◌, Bool, true, false, cond, not, ◌||◌, ◌&&◌, ◌==◌, List, [], ◌∷◌, ◌++◌, refl, sym, ◌∙◌, ap, arith, sum_by, inl, inr}
use Rattle.std.proofs.lemmas.Bool.{cases_Bool, both_ways, eqb-true, eq-eqb}
use Rattle.std.proofs.lemmas.List.Sums.{sum_by-cons}
use Rattle.containers.specs.Objects.{Apart}
use Rattle.base.specs.Live.{has}
use Rattle.containers.specs.Tree.{without}
use Rattle.containers.proofs.Views.{at_has, or_right}

-- no number stands twice
abbrev pub Distinct : List ℕ → Type 0
Distinct [] = Unit {0}
Distinct (x ∷ xs) = (has xs x ≡ false) × Distinct xs

pub distinct_from : (xs : List ℕ) → Apart xs → Distinct xs
distinct_from [] h = tt
distinct_from (x ∷ xs) h = (
  elim (cases_Bool (has xs x)) [
    | inl there ↦
        let at = at_has xs x there in
        absurd (h 0 (suc at.0) (omega arith) (omega (arith, at.1)) (sym at.2))
    | inr off ↦ off
  ],
  distinct_from xs (λ i j less within. h (suc i) (suc j) (omega arith) (omega arith)),
)

none : (b : Bool) → (b && false) ≡ false
none true = refl
none false = refl

whole : (b : Bool) → (b && true) ≡ b
whole true = refl
whole false = refl

-- tests of numbers that are the same either way
pub turned_test : (a b : ℕ) → (a == b) ≡ false → (b == a) ≡ false
turned_test a b off = elim (cases_Bool (b == a)) [
  | inl is ↦ absurd (both_ways (a == b) off (eq-eqb a b (sym (eqb-true b a is))))
  | inr other ↦ other
]

-- what is left without a number
pub has_without : (o i : ℕ) (ids : List ℕ) → has (without o ids) i ≡ (has ids i && not (o == i))
has_without o i [] = refl
has_without o i (x ∷ xs) = elim (cases_Bool (o == x)) [
  | inl is ↦
      ap (λ (b : Bool). has (cond (not b) (x ∷ without o xs) (without o xs)) i) is
      ∙ has_without o i xs ∙ dropped (eqb-true o x is)
  | inr off ↦
      ap (λ (b : Bool). has (cond (not b) (x ∷ without o xs) (without o xs)) i) off
      ∙ ap (λ (b : Bool). (i == x) || b) (has_without o i xs) ∙ stays off
]
  where
    dropped : o ≡ x → (has xs i && not (o == i)) ≡ (((i == x) || has xs i) && not (o == i))
    dropped same = elim (cases_Bool (i == x)) [
      | inl at ↦
          let on : (o == i) ≡ true = eq-eqb o i (same ∙ sym (eqb-true i x at)) in
          ap (λ (b : Bool). has xs i && not b) on ∙ none (has xs i)
          ∙ sym (ap (λ (b : Bool). ((i == x) || has xs i) && not b) on ∙ none ((i == x) || has xs i))
      | inr off ↦ sym (ap (λ (b : Bool). (b || has xs i) && not (o == i)) off)
    ]

    stays : (o == x) ≡ false → ((i == x) || (has xs i && not (o == i))) ≡ (((i == x) || has xs i) && not (o == i))
    stays off = elim (cases_Bool (i == x)) [
      | inl at ↦
          let on : (o == i) ≡ false = ap (λ (k : ℕ). o == k) (eqb-true i x at) ∙ off in
          ap (λ (b : Bool). b || (has xs i && not (o == i))) at
          ∙ sym (ap (λ (b : Bool). ((i == x) || has xs i) && not b) on
          ∙ ap (λ (b : Bool). (b || has xs i) && true) at)
      | inr other ↦
          ap (λ (b : Bool). b || (has xs i && not (o == i))) other
          ∙ sym (ap (λ (b : Bool). (b || has xs i) && not (o == i)) other)
    ]

-- what is not there is taken out at no cost
pub without_absent : (o : ℕ) (ids : List ℕ) → has ids o ≡ false → without o ids ≡ ids
without_absent o [] h = refl
without_absent o (x ∷ xs) h = elim (cases_Bool (o == x)) [
  | inl is ↦ absurd (both_ways ((o == x) || has xs o) h (ap (λ (b : Bool). b || has xs o) is))
  | inr off ↦
      ap (λ (b : Bool). cond (not b) (x ∷ without o xs) (without o xs)) off
      ∙ ap (λ (t : List ℕ). x ∷ t) (without_absent o xs (sym (ap (λ (b : Bool). b || has xs o) off) ∙ h))
]

-- what is there once is taken out with its part of the sum
pub sum_without_one : (f : ℕ → ℕ) (o : ℕ) (ids : List ℕ) → Distinct ids → has ids o ≡ true
    → sum_by f (without o ids) + f o ≡ sum_by f ids
sum_without_one f o [] distinct h = absurd (both_ways false refl h)
sum_without_one f o (x ∷ xs) distinct h =
    elim (cases_Bool (o == x)) [
      | inl is ↦
          let same : o ≡ x = eqb-true o x is in
          let absent : has xs o ≡ false = ap (has xs) same ∙ distinct.0 in
          let cut : sum_by f (without o (x ∷ xs)) ≡ sum_by f xs
          = ap (λ (b : Bool). sum_by f (cond (not b) (x ∷ without o xs) (without o xs))) is
          ∙ ap (sum_by f) (without_absent o xs absent) in
          let all : sum_by f (x ∷ xs) ≡ f x + sum_by f xs = sum_by-cons f x xs in
          let last : f o ≡ f x = ap f same in
          omega arith
      | inr off ↦
          let cut : sum_by f (without o (x ∷ xs)) ≡ f x + sum_by f (without o xs)
          = ap (λ (b : Bool). sum_by f (cond (not b) (x ∷ without o xs) (without o xs))) off
          ∙ sum_by-cons f x (without o xs) in
          let all : sum_by f (x ∷ xs) ≡ f x + sum_by f xs = sum_by-cons f x xs in
          let rest : sum_by f (without o xs) + f o ≡ sum_by f xs
          = sum_without_one f o xs distinct.1 (sym (ap (λ (b : Bool). b || has xs o) off) ∙ h) in
          omega arith
    ]

pub distinct_without : (o : ℕ) (ids : List ℕ) → Distinct ids → Distinct (without o ids)
distinct_without o [] h = tt
distinct_without o (x ∷ xs) h =
    elim (o == x) as (λ v. Distinct (cond (not v) (x ∷ without o xs) (without o xs))) [
      | true ↦ distinct_without o xs h.1
      | false ↦ (
        has_without o x xs ∙ ap (λ (b : Bool). b && not (o == x)) h.0,
        distinct_without o xs h.1,
      )
    ]

nothing : (xs : List ℕ) → ((i : ℕ) → has xs i ≡ false) → xs ≡ []
nothing [] h = refl
nothing (x ∷ xs) h = absurd (both_ways ((x == x) || has xs x) (h x) (ap (λ (b : Bool). b || has xs x) (eq-eqb x x refl)))

-- lists with the same members, each once, have the same sums
pub same_sum : (f : ℕ → ℕ) (xs ys : List ℕ) → Distinct xs → Distinct ys
    → ((i : ℕ) → has xs i ≡ has ys i) → sum_by f xs ≡ sum_by f ys
same_sum f [] ys dx dy same = sym (ap (sum_by f) (nothing ys (λ i. sym (same i))))
same_sum f (x ∷ xs) ys dx dy same =
    let there : has ys x ≡ true = sym (same x) ∙ ap (λ (b : Bool). b || has xs x) (eq-eqb x x refl) in
    let cut : sum_by f (without x ys) + f x ≡ sum_by f ys = sum_without_one f x ys dy there in
    let rest : sum_by f xs ≡ sum_by f (without x ys)
    = same_sum f xs (without x ys) dx.1 (distinct_without x ys dy) (λ i. fewer i) in
    let all : sum_by f (x ∷ xs) ≡ f x + sum_by f xs = sum_by-cons f x xs in
    omega arith
  where
    fewer : (i : ℕ) → has xs i ≡ has (without x ys) i
    fewer i = elim (cases_Bool (x == i)) [
      | inl is ↦
          ap (has xs) (sym (eqb-true x i is)) ∙ dx.0
          ∙ sym (has_without x i ys ∙ ap (λ (b : Bool). has ys i && not b) is ∙ none (has ys i))
      | inr off ↦
          sym (ap (λ (b : Bool). b || has xs i) (turned_test x i off)) ∙ same i
          ∙ sym (has_without x i ys ∙ ap (λ (b : Bool). has ys i && not b) off ∙ whole (has ys i))
    ]

pub has_append : (xs ys : List ℕ) (i : ℕ) → has (xs ++ ys) i ≡ (has xs i || has ys i)
has_append [] ys i = refl
has_append (x ∷ xs) ys i =
    ap (λ (b : Bool). (i == x) || b) (has_append xs ys i) ∙ grouped (i == x) (has xs i) (has ys i)
  where
    grouped : (a b c : Bool) → (a || (b || c)) ≡ ((a || b) || c)
    grouped true b c = refl
    grouped false b c = refl

-- two lists that share none
pub distinct_append : (xs ys : List ℕ) → Distinct xs → Distinct ys → ((i : ℕ) → has xs i ≡ true → has ys i ≡ false)
    → Distinct (xs ++ ys)
distinct_append [] ys dx dy apart = dy
distinct_append (x ∷ xs) ys dx dy apart = (
  has_append xs ys x
      ∙ ap (λ (b : Bool). b || has ys x) dx.0
      ∙ apart x (ap (λ (b : Bool). b || has xs x) (eq-eqb x x refl)),
  distinct_append xs ys dx.1 dy (λ i h. apart i (or_right (i == x) (has xs i) h)),
)
