-- Whether a category stands in a list twice, found from the list's beginning on.
use Rattle.std.proofs.Common.{◌≡◌, ◌≢◌, ℕ, zero, suc, ◌+◌, ◌<◌, ◌≤◌, inl, inr, Bool, true, false, ◌||◌, List, [], ◌∷◌}
use Rattle.std.proofs.Common.{◌++◌, length, take, drop, get_or, refl, sym, ap, ◌∙◌, arith, ◌==◌, map, eq-eqb}
use Rattle.std.proofs.Common.{drop-cons}
use Rattle.std.specs.List.{list_any}
use Rattle.std.proofs.lemmas.List.{take_more, take-append-drop, length-map}
use Rattle.std.proofs.Math.ListN.{get_or-map}
use Rattle.base.specs.declared.ids.Category.{Category}
use Rattle.std.proofs.lemmas.Bool.{cases_eq}
use Rattle.label_lattice.specs.declared.pairings.Pair.{Pair}
use Rattle.label_lattice.specs.Columns.{filler}
use Rattle.label_lattice.specs.Raw.{has_twice}
use Rattle.label_lattice.proofs.PlacedLemmas.{eq_false}
use Rattle.label_lattice.proofs.CollectLemmas.{any_at, or_false_left, or_false_right}

-- one more pair, of another category
any_at-push : (c : ℕ) (xs : List Pair) (p : Pair) → any_at c xs ≡ false → p.category.0 ≢ c
    → any_at c (xs ++ p ∷ []) ≡ false
any_at-push c [] p none other = rw (eq_false p.category.0 c other) refl
any_at-push c (x ∷ xs) p none other =
    rw (or_false_left (x.category.0 == c) (any_at c xs) none)
    (any_at-push c xs p (or_false_right (x.category.0 == c) (any_at c xs) none) other)

differs_from : (m n : ℕ) → (m == n) ≡ false → n ≢ m
differs_from m n f e = let t : (m == n) ≡ true = eq-eqb m n (sym e) in let g : true ≡ false = sym t ∙ f in absurd (cc)

has_twice-push : (xs : List Pair) (p : Pair) → has_twice xs ≡ false
    → any_at p.category.0 xs ≡ false → has_twice (xs ++ p ∷ []) ≡ false
has_twice-push [] p once none = refl
has_twice-push (x ∷ xs) p once none =
    let fresh : any_at x.category.0 (xs ++ p ∷ []) ≡ false =
    any_at-push x.category.0 xs p
    (or_false_left (any_at x.category.0 xs) (has_twice xs) once)
    (differs_from x.category.0 p.category.0
    (or_false_left (x.category.0 == p.category.0) (any_at p.category.0 xs) none)) in
    rw fresh
    (has_twice-push xs p (or_false_right (any_at x.category.0 xs) (has_twice xs) once)
    (or_false_right (x.category.0 == p.category.0) (any_at p.category.0 xs) none))

or_true_left : (x y : Bool) → x ≡ true → (x || y) ≡ true
or_true_left x y e = rw e refl

or_true_right : (x y : Bool) → y ≡ true → (x || y) ≡ true
or_true_right true y e = refl
or_true_right false y e = e

any_at-behind : (xs ys : List Pair) (p : Pair) → any_at p.category.0 (xs ++ p ∷ ys) ≡ true
any_at-behind [] ys p = or_true_left (p.category.0 == p.category.0) _ (eq-eqb p.category.0 p.category.0 refl)
any_at-behind (x ∷ xs) ys p = or_true_right (x.category.0 == p.category.0) _ (any_at-behind xs ys p)

has_twice-behind : (xs ys : List Pair) (p : Pair) → any_at p.category.0 xs ≡ true
    → has_twice (xs ++ p ∷ ys) ≡ true
has_twice-behind [] ys p again = absurd (let e : true ≡ false = sym again in cc)
has_twice-behind (x ∷ xs) ys p again =
    elim (cases_eq x.category.0 p.category.0) [
      | inl same ↦
          or_true_left (any_at x.category.0 (xs ++ p ∷ ys)) _
          (rw same (any_at-behind xs ys p))
      | inr other ↦
          or_true_right (any_at x.category.0 (xs ++ p ∷ ys)) _
          (has_twice-behind xs ys p (rw (eq_false x.category.0 p.category.0 other) at again))
    ]

-- what the search keeps: no category above the greatest was seen, and none twice
pub record TwiceGoesOn (pairs : List Pair) (i greatest : ℕ) : Type 0 where
  pub below : (c : ℕ) → greatest < c → any_at c (take i pairs) ≡ false
  pub once : has_twice (take i pairs) ≡ false

module _ (pairs : List Pair) (i greatest : ℕ) (on : TwiceGoesOn pairs i greatest) (within : i < length pairs) where
  more : take (i + 1) pairs ≡ take i pairs ++ get_or pairs i filler ∷ []
  more = take_more pairs i filler within

  pub twice_rises : greatest < (get_or pairs i filler).category.0
      → TwiceGoesOn pairs (i + 1) (get_or pairs i filler).category.0
  twice_rises above = record {
    below = λ c past. rw more
        (any_at-push c (take i pairs) (get_or pairs i filler) (on.below c (omega (arith, above, past)))
        (omega (arith, past)));
    once = rw more
        (has_twice-push (take i pairs) (get_or pairs i filler) on.once
        (on.below (get_or pairs i filler).category.0 above));
  }

  pub twice_stays : (get_or pairs i filler).category.0 ≤ greatest
      → any_at (get_or pairs i filler).category.0 (take i pairs) ≡ false
      → TwiceGoesOn pairs (i + 1) greatest
  twice_stays low fresh = record {
    below = λ c past. rw more
        (any_at-push c (take i pairs) (get_or pairs i filler) (on.below c past)
        (omega (arith, low, past)));
    once = rw more
        (has_twice-push (take i pairs) (get_or pairs i filler) on.once fresh);
  }

-- a category that comes again
pub twice_found : (pairs : List Pair) (i : ℕ) → i < length pairs
    → any_at (get_or pairs i filler).category.0 (take i pairs) ≡ true → has_twice pairs ≡ true
twice_found pairs i within again =
    let parts : take i pairs ++ get_or pairs i filler ∷ drop (suc i) pairs ≡ pairs =
    ap (λ r. take i pairs ++ r) (sym (drop-cons pairs i filler within)) ∙ take-append-drop i pairs in
    ap has_twice (sym parts)
    ∙ has_twice-behind (take i pairs) (drop (suc i) pairs) (get_or pairs i filler) again

-- the same, where the categories stand in a list of their own
seen : (c i : ℕ) (ps : List Pair)
    → list_any (λ q. q.0 == c) (take i (map (λ p. p.category) ps)) ≡ any_at c (take i ps)
seen c zero ps = refl
seen c (suc i) [] = refl
seen c (suc i) (p ∷ ps) = ap (λ r. (p.category.0 == c) || r) (seen c i ps)

module _ (pairs : List Pair) (cs : List Category) (i greatest : ℕ)
    (are : cs ≡ map (λ p. p.category) pairs) (within : i < length cs) where
  inside : i < length pairs
  inside = rw (are, length-map pairs (λ p. p.category)) at within

  here : (get_or cs i filler.category).0 ≡ (get_or pairs i filler).category.0
  here = rw are (ap (λ (q : Category). q.0) (get_or-map (λ (p : Pair). p.category) pairs i filler))

  before : list_any (λ q. q.0 == (get_or cs i filler.category).0) (take i cs)
      ≡ any_at (get_or pairs i filler).category.0 (take i pairs)
  before = rw (here, are) (seen (get_or pairs i filler).category.0 i pairs)

  pub category_found : true ≡ list_any (λ q. q.0 == (get_or cs i filler.category).0) (take i cs)
      → true ≡ has_twice pairs
  category_found again = sym (twice_found pairs i inside (sym (again ∙ before)))

  pub category_rises : TwiceGoesOn pairs i greatest → greatest < (get_or cs i filler.category).0
      → TwiceGoesOn pairs (i + 1) (get_or cs i filler.category).0
  category_rises on above =
      rw here (twice_rises pairs i greatest on inside (rw here at above))

  pub category_stays : TwiceGoesOn pairs i greatest → (get_or cs i filler.category).0 ≤ greatest
      → false ≡ list_any (λ q. q.0 == (get_or cs i filler.category).0) (take i cs)
      → TwiceGoesOn pairs (i + 1) greatest
  category_stays on low fresh =
      twice_stays pairs i greatest on inside (rw here at low) (sym (fresh ∙ before))
