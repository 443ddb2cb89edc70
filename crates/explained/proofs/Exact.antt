-- What is gathered is exact.
use Rattle.std.proofs.Common.{◌≡◌, ◌≢◌, ℕ, ◌<◌, ◌≤◌, ◌↔◌, ◌++◌, ◌⊎◌, inl, inr, Bool, IsTrue, true, ◌&&◌, ◌||◌, ◌==◌}
use Rattle.std.proofs.Common.{false, nat_lt, arith, List, [], ◌∷◌, refl, ap, sym, ◌∙◌, cond, Option, Some, None, IsSome, IfSome, is_none, is_some, subst, map}
use Rattle.std.proofs.lemmas.Bool.Decides.{nat_tests, same_from_decides}
use Rattle.std.proofs.lemmas.Bool.{cases_eq, eq-eqb, both_ways}
use Rattle.label_lattice.specs.Label.{LabelValue}
use Rattle.label_lattice.specs.Raw.{raw_of}
use Rattle.label_lattice.specs.declared.raw_labels.RawLabel.{RawLabel}
use Rattle.label_lattice.specs.Order.{Levels, Leq, levels, join, up, IsOutside, IsDescribed}
use Rattle.label_lattice.proofs.OrderLemmas.{leq_test-Leq, IsDescribed-levels, IsDescribed-up, IsDescribed-down, IsDescribed-join}
use Rattle.label_lattice.proofs.OrderLemmas.{IsOutside-append_left, IsOutside-append_right, above_all, IsOutside-above_all}
use Rattle.label_lattice.proofs.WalkLemmas.{and_parts, and_both}
use Rattle.base.specs.Level.{rank_of}
use Rattle.explained.specs.Sides.{left, right, left_rank, right_rank, compares, is_of_three, exceptions}
use Rattle.explained.specs.Ranks.{rank_at}
use Rattle.explained.specs.Failing.{failure_at, failing_sides, ranks_of, put, looked, fails_at, gathered, failing, failing_rest}
use Rattle.explained.specs.Laws.{IsPast, IsRising, Fails, AllFail, names, IsExact, is_nil}
use Rattle.explained.specs.declared.failing.Failure.{Failure}
use Rattle.explained.specs.declared.failing.Ranks.{Ranks}
use Rattle.explained.specs.declared.relations.Relation.{Relation}
use Rattle.explained.specs.declared.relations.Relation.TheVariants.{Below, Visible, Shown, BelowJoin, BelowJoinUp, AboveFloor}

pub by_test : {X : Type 0} (P : X → Type 0) (b : Bool) (x y : X)
    → (b ≡ true → P x) → (b ≡ false → P y) → P (cond b x y)
by_test P b x y t f = elim b as (λ v. b ≡ v → P (cond v x y)) [ true ↦ t | false ↦ f ] refl

lt_means : (m n : ℕ) → nat_lt m n ≡ true → m < n
lt_means m n h = grind (arith, nat_tests)

lt_fails : (m n : ℕ) → nat_lt m n ≡ false → n ≤ m
lt_fails m n h = grind (arith, nat_tests)

lt_tests : (m n : ℕ) → m < n → nat_lt m n ≡ true
lt_tests m n h = grind (arith, nat_tests)

past_less : (m n : ℕ) (fs : List Failure) → m < n → IsPast n fs → IsPast m fs
past_less m n [] lt h = tt
past_less m n (f ∷ fs) lt h = (omega (arith, h.0), past_less m n fs lt h.1)

put-past : (m : ℕ) (f : Failure) (gs : List Failure) → m < f.category.0 → IsPast m gs → IsPast m (put f gs)
put-past m f [] lt h = (lt, tt)
put-past m f (g ∷ gs) lt h =
    by_test (IsPast m) (nat_lt g.category.0 f.category.0) _ _
    (λ _. (h.0, put-past m f gs lt h.1))
    (λ _. by_test (IsPast m) (g.category.0 == f.category.0) (g ∷ gs) (f ∷ g ∷ gs) (λ _. h) (λ _. (lt, h)))

put-rising : (f : Failure) (gs : List Failure) → IsRising gs → IsRising (put f gs)
put-rising f [] h = (tt, tt)
put-rising f (g ∷ gs) h =
    by_test IsRising (nat_lt g.category.0 f.category.0) _ _
    (λ less. (put-past g.category.0 f gs (lt_means _ _ less) h.0, put-rising f gs h.1))
    (λ more. by_test IsRising (g.category.0 == f.category.0) (g ∷ gs) (f ∷ g ∷ gs) (λ _. h)
    (λ other.
    let ne : g.category.0 ≢ f.category.0 = λ e. both_ways (g.category.0 == f.category.0) other (eq-eqb g.category.0 f.category.0 e) in
    let ge : f.category.0 ≤ g.category.0 = lt_fails g.category.0 f.category.0 more in
    let lt : f.category.0 < g.category.0 = omega arith in
    ((lt, past_less f.category.0 g.category.0 gs lt h.0), h)))

put-fails : (l r : Levels) (f : Failure) (gs : List Failure) → Fails l r f → AllFail l r gs → AllFail l r (put f gs)
put-fails l r f [] new h = (new, tt)
put-fails l r f (g ∷ gs) new h =
    by_test (AllFail l r) (nat_lt g.category.0 f.category.0) _ _
    (λ _. (h.0, put-fails l r f gs new h.1))
    (λ _. by_test (AllFail l r) (g.category.0 == f.category.0) (g ∷ gs) (f ∷ g ∷ gs) (λ _. h) (λ _. (new, h)))

or_left : (a b : Bool) → IsTrue a → IsTrue (a || b)
or_left true b h = refl
or_left false b h = absurd (cc)

or_right : (a b : Bool) → IsTrue b → IsTrue (a || b)
or_right true b h = refl
or_right false b h = h

or_parts : (a b : Bool) → IsTrue (a || b) → IsTrue a ⊎ IsTrue b
or_parts true b h = inl refl
or_parts false b h = inr h

put-new : (f : Failure) (gs : List Failure) → IsTrue (names (put f gs) f.category.0)
put-new f [] = or_left _ _ (eq-eqb f.category.0 f.category.0 refl)
put-new f (g ∷ gs) =
    by_test (λ fs. IsTrue (names fs f.category.0)) (nat_lt g.category.0 f.category.0) _ _
    (λ _. or_right (g.category.0 == f.category.0) _ (put-new f gs))
    (λ _. by_test (λ fs. IsTrue (names fs f.category.0)) (g.category.0 == f.category.0) (g ∷ gs) (f ∷ g ∷ gs)
    (λ same. or_left (g.category.0 == f.category.0) (names gs f.category.0) same)
    (λ _. or_left (f.category.0 == f.category.0) (names (g ∷ gs) f.category.0) (eq-eqb f.category.0 f.category.0 refl)))

put-old : (f : Failure) (gs : List Failure) (c : ℕ) → IsTrue (names gs c) → IsTrue (names (put f gs) c)
put-old f [] c h = absurd (cc)
put-old f (g ∷ gs) c h =
    by_test (λ fs. IsTrue (names fs c)) (nat_lt g.category.0 f.category.0) _ _
    (λ _. elim (or_parts (g.category.0 == c) (names gs c) h) [
      | inl here ↦ or_left (g.category.0 == c) (names (put f gs) c) here
      | inr there ↦ or_right (g.category.0 == c) (names (put f gs) c) (put-old f gs c there)
    ])
    (λ _. by_test (λ fs. IsTrue (names fs c)) (g.category.0 == f.category.0) (g ∷ gs) (f ∷ g ∷ gs) (λ _. h)
    (λ _. or_right (f.category.0 == c) (names (g ∷ gs) c) h))

looked-rising : (l r : Levels) (c : ℕ) (fs : List Failure) → IsRising fs → IsRising (looked l r c fs)
looked-rising l r c fs h =
    by_test IsRising (fails_at l r c) (put (failure_at l r c) fs) fs (λ _. put-rising (failure_at l r c) fs h) (λ _. h)

looked-fails : (l r : Levels) (c : ℕ) (fs : List Failure) → AllFail l r fs → AllFail l r (looked l r c fs)
looked-fails l r c fs h =
    by_test (AllFail l r) (fails_at l r c) (put (failure_at l r c) fs) fs
    (λ fails. put-fails l r (failure_at l r c) fs
    (record { left = refl; right = refl; above = lt_means (r.at c) (l.at c) fails }) h)
    (λ _. h)

looked-old : (l r : Levels) (c : ℕ) (fs : List Failure) (k : ℕ) → IsTrue (names fs k) → IsTrue (names (looked l r c fs) k)
looked-old l r c fs k h =
    by_test (λ gs. IsTrue (names gs k)) (fails_at l r c) (put (failure_at l r c) fs) fs
    (λ _. put-old (failure_at l r c) fs k h) (λ _. h)

looked-new : (l r : Levels) (c : ℕ) (fs : List Failure) → fails_at l r c ≡ true → IsTrue (names (looked l r c fs) c)
looked-new l r c fs fails =
    by_test (λ gs. IsTrue (names gs c)) (fails_at l r c) (put (failure_at l r c) fs) fs
    (λ _. put-new (failure_at l r c) fs) (λ other. absurd (both_ways (fails_at l r c) other fails))

gathered-rising : (l r : Levels) (cs : List ℕ) (fs : List Failure) → IsRising fs → IsRising (gathered l r cs fs)
gathered-rising l r [] fs h = h
gathered-rising l r (c ∷ cs) fs h = gathered-rising l r cs (looked l r c fs) (looked-rising l r c fs h)

gathered-fails : (l r : Levels) (cs : List ℕ) (fs : List Failure) → AllFail l r fs → AllFail l r (gathered l r cs fs)
gathered-fails l r [] fs h = h
gathered-fails l r (c ∷ cs) fs h = gathered-fails l r cs (looked l r c fs) (looked-fails l r c fs h)

gathered-old : (l r : Levels) (cs : List ℕ) (fs : List Failure) (k : ℕ)
    → IsTrue (names fs k) → IsTrue (names (gathered l r cs fs) k)
gathered-old l r [] fs k h = h
gathered-old l r (c ∷ cs) fs k h = gathered-old l r cs (looked l r c fs) k (looked-old l r c fs k h)

gathered-new : (l r : Levels) (cs : List ℕ) (fs : List Failure) (k : ℕ)
    → fails_at l r k ≡ true → IsTrue (names (gathered l r cs fs) k) ⊎ IsOutside k cs
gathered-new l r [] fs k fails = inr tt
gathered-new l r (c ∷ cs) fs k fails =
    elim (cases_eq k c) [
      | inl same ↦ inl (gathered-old l r cs (looked l r c fs) k
          (subst (λ (x : ℕ). IsTrue (names (looked l r x fs) k)) same (looked-new l r k fs fails)))
      | inr other ↦ elim (gathered-new l r cs (looked l r c fs) k fails) [
        | inl here ↦ inl here
        | inr outside ↦ inr (other, outside)
      ]
    ]

gathered-append : (l r : Levels) (xs ys : List ℕ) (fs : List Failure)
    → gathered l r (xs ++ ys) fs ≡ gathered l r ys (gathered l r xs fs)
gathered-append l r [] ys fs = refl
gathered-append l r (x ∷ xs) ys fs = gathered-append l r xs ys (looked l r x fs)

left-described : (relation : Relation) (a b c : LabelValue) → IsDescribed (left relation a b c)
left-described Below a b c = IsDescribed-levels a
left-described Visible a b c = IsDescribed-levels a
left-described Shown a b c = IsDescribed-up (levels a) (IsDescribed-levels a)
left-described BelowJoin a b c = IsDescribed-levels a
left-described BelowJoinUp a b c = IsDescribed-levels a
left-described AboveFloor a b c =
    IsDescribed-down (join (up (levels a)) (up (levels b)))
    (IsDescribed-join (up (levels a)) (up (levels b)) (IsDescribed-up (levels a) (IsDescribed-levels a))
    (IsDescribed-up (levels b) (IsDescribed-levels b)))

right-described : (relation : Relation) (a b c : LabelValue) → IsDescribed (right relation a b c)
right-described Below a b c = IsDescribed-levels b
right-described Visible a b c = IsDescribed-up (levels b) (IsDescribed-levels b)
right-described Shown a b c = IsDescribed-up (levels b) (IsDescribed-levels b)
right-described BelowJoin a b c = IsDescribed-join (levels b) (levels c) (IsDescribed-levels b) (IsDescribed-levels c)
right-described BelowJoinUp a b c =
    IsDescribed-join (levels b) (up (levels c)) (IsDescribed-levels b) (IsDescribed-up (levels c) (IsDescribed-levels c))
right-described AboveFloor a b c = IsDescribed-levels c

rest_of : (l r : Levels) → nat_lt r.rest l.rest ≡ true → failing_rest l r ≡ Some (ranks_of l.rest r.rest)
rest_of l r h = rw h refl

no_rest : (l r : Levels) → nat_lt r.rest l.rest ≡ false → failing_rest l r ≡ None
no_rest l r h = rw h refl

some_none : (o : Option Ranks) → IsSome o → o ≡ None → ⊥
some_none o h e = let P : Option Ranks → Type 0 = λ x. is_some x ≡ true in both_ways (is_some {T = Ranks} None) refl (subst P e h)

is_some_at : (o : Option Ranks) (x : Ranks) → o ≡ Some x → IsSome o
is_some_at o x e = let P : Option Ranks → Type 0 = λ y. is_some y ≡ true in subst P (sym e) refl

none_fails : (l r : Levels) → IsSome (failing_rest l r) → r.rest < l.rest
none_fails l r some =
    elim (nat_lt r.rest l.rest) as (λ v. nat_lt r.rest l.rest ≡ v → r.rest < l.rest) [
      | true ↦ λ is. lt_means r.rest l.rest is
      | false ↦ λ is. absurd (some_none (failing_rest l r) some (no_rest l r is))
    ] refl

exact : (l r : Levels) → IsDescribed l → IsDescribed r → IsExact l r (failing l r) (failing_rest l r)
unfolding failing
exact l r dl dr = record {
  rising = gathered-rising l r (l.points ++ r.points) [] tt;
  no_other = gathered-fails l r (l.points ++ r.points) [] tt;
  all = λ c fails. gathered-new l r (l.points ++ r.points) [] c (lt_tests (r.at c) (l.at c) fails);
  inside = λ c out.
      let at_l : l.at c ≡ l.rest = dl.outside c (IsOutside-append_left c l.points r.points out) in
      let at_r : r.at c ≡ r.rest = dr.outside c (IsOutside-append_right c l.points r.points out) in (
        λ fails.
            let lt : r.rest < l.rest = omega (arith, fails, at_l, at_r) in
            is_some_at (failing_rest l r) (ranks_of l.rest r.rest) (rest_of l r (lt_tests r.rest l.rest lt)),
        λ some. let lt : r.rest < l.rest = none_fails l r some in omega (arith, lt, at_l, at_r),
      );
  ranks = λ c out.
      let at_l : l.at c ≡ l.rest = dl.outside c (IsOutside-append_left c l.points r.points out) in
      let at_r : r.at c ≡ r.rest = dr.outside c (IsOutside-append_right c l.points r.points out) in
      by_test (λ o. IfSome o (λ told. (told.left ≡ rank_at (l.at c)) × (told.right ≡ rank_at (r.at c))))
      (nat_lt r.rest l.rest) (Some (ranks_of l.rest r.rest)) None
      (λ _. (ap rank_at (sym at_l), ap rank_at (sym at_r))) (λ _. tt);
}

pub failing_is_exact : (relation : Relation) (a b c : LabelValue)
    → IsExact (left relation a b c) (right relation a b c)
    (failing (left relation a b c) (right relation a b c))
    (failing_rest (left relation a b c) (right relation a b c))
failing_is_exact relation a b c =
    exact (left relation a b c) (right relation a b c) (left-described relation a b c) (right-described relation a b c)

no_some : (o : Option Ranks) → (IsSome o → ⊥) → IsTrue (is_none o)
no_some None h = refl
no_some (Some x) h = absurd (h refl)

nil_named : (fs : List Failure) (c : ℕ) → IsTrue (is_nil fs) → IsTrue (names fs c) → ⊥
nil_named [] c h g = both_ways false refl g
nil_named (f ∷ fs) c h g = both_ways false refl h

none_some : (o : Option Ranks) → IsTrue (is_none o) → IsSome o → ⊥
none_some None h g = both_ways false refl g
none_some (Some x) h g = both_ways false refl h

nil_by : (l r : Levels) (fs : List Failure) → AllFail l r fs → Leq l r → IsTrue (is_nil fs)
nil_by l r [] h leq = refl
nil_by l r (f ∷ fs) h leq =
    let above : r.at f.category.0 < l.at f.category.0 = h.0.above in
    let most : l.at f.category.0 ≤ r.at f.category.0 = leq f.category.0 in
    absurd (omega arith)

told-Leq : (l r : Levels) (fs : List Failure) (rest : Option Ranks) → IsExact l r fs rest
    → IsTrue (is_nil fs && is_none rest) ↔ Leq l r
told-Leq l r fs rest exact = (
  λ h c.
      let parts = and_parts (is_nil fs) (is_none rest) h in
      elim (nat_lt (r.at c) (l.at c)) as (λ v. nat_lt (r.at c) (l.at c) ≡ v → l.at c ≤ r.at c) [
        | true ↦ λ is.
            let lt : r.at c < l.at c = lt_means (r.at c) (l.at c) is in
            absurd (elim (exact.all c lt) [
              | inl here ↦ nil_named fs c parts.0 here
              | inr out ↦ none_some rest parts.1 ((exact.inside c out).0 lt)
            ])
        | false ↦ λ is. lt_fails (r.at c) (l.at c) is
      ] refl,
  λ leq.
      and_both (is_nil fs) (is_none rest) (nil_by l r fs exact.no_other leq)
      (no_some rest (λ some.
      let far : ℕ = above_all (l.points ++ r.points) in
      let lt : r.at far < l.at far =
      (exact.inside far (IsOutside-above_all far (l.points ++ r.points) (omega arith))).1 some in
      let most : l.at far ≤ r.at far = leq far in
      absurd (omega arith))),
)

pub holds_where_none_fails : (relation : Relation) (a b c : LabelValue)
    → compares relation a b c
    ≡ (is_nil (failing (left relation a b c) (right relation a b c))
    && is_none (failing_rest (left relation a b c) (right relation a b c)))
holds_where_none_fails relation a b c =
    same_from_decides (compares relation a b c) _
    (leq_test-Leq (left relation a b c) (right relation a b c) (left-described relation a b c)
    (right-described relation a b c))
    (told-Leq (left relation a b c) (right relation a b c) _ _ (failing_is_exact relation a b c))

points_of : (relation : Relation) (a b c : LabelValue) (f : List Failure) → (l r : Levels)
    → gathered l r ((left relation a b c).points ++ (right relation a b c).points) f
    ≡ cond (is_of_three relation)
    (gathered l r (exceptions c) (gathered l r (exceptions b) (gathered l r (exceptions a) f)))
    (gathered l r (exceptions b) (gathered l r (exceptions a) f))
points_of Below a b c f l r = gathered-append l r (exceptions a) (exceptions b) f
points_of Visible a b c f l r = gathered-append l r (exceptions a) (exceptions b) f
points_of Shown a b c f l r = gathered-append l r (exceptions a) (exceptions b) f
points_of BelowJoin a b c f l r =
    gathered-append l r (exceptions a) (exceptions b ++ exceptions c) f
    ∙ gathered-append l r (exceptions b) (exceptions c) (gathered l r (exceptions a) f)
points_of BelowJoinUp a b c f l r =
    gathered-append l r (exceptions a) (exceptions b ++ exceptions c) f
    ∙ gathered-append l r (exceptions b) (exceptions c) (gathered l r (exceptions a) f)
points_of AboveFloor a b c f l r =
    gathered-append l r (exceptions a ++ exceptions b) (exceptions c) f
    ∙ ap (gathered l r (exceptions c)) (gathered-append l r (exceptions a) (exceptions b) f)

pub failing_made : (relation : Relation) (a b c : LabelValue) (x y : RawLabel) (f0 f1 f2 f3 : List Failure)
    → x ≡ raw_of a → y ≡ raw_of b → f0 ≡ []
    → f1 ≡ gathered (left relation a b c) (right relation a b c) (map (λ p. p.category.0) x.pairs) f0
    → f2 ≡ gathered (left relation a b c) (right relation a b c) (map (λ p. p.category.0) y.pairs) f1
    → f3 ≡ cond (is_of_three relation)
    (gathered (left relation a b c) (right relation a b c) (exceptions c) f2) f2
    → f3 ≡ failing (left relation a b c) (right relation a b c)
unfolding failing
failing_made relation a b c x y f0 f1 f2 f3 ex ey e0 e1 e2 e3 =
    let l = left relation a b c in
    let r = right relation a b c in
    let at1 : f1 ≡ gathered l r (exceptions a) [] = e1 ∙ rw (ex, e0) refl in
    let at2 : f2 ≡ gathered l r (exceptions b) (gathered l r (exceptions a) []) = e2 ∙ rw (ey, at1) refl in
    e3 ∙ ap (λ f. cond (is_of_three relation) (gathered l r (exceptions c) f) f) at2
    ∙ sym (points_of relation a b c [] l r)

pub rest_by_defaults : (relation : Relation) (a b c : LabelValue)
    → failing_sides (left_rank relation (rank_of a.default_level) (rank_of b.default_level))
    (right_rank relation (rank_of b.default_level) (rank_of c.default_level))
    ≡ failing_rest (left relation a b c) (right relation a b c)
rest_by_defaults Below a b c = refl
rest_by_defaults Visible a b c = refl
rest_by_defaults Shown a b c = refl
rest_by_defaults BelowJoin a b c = refl
rest_by_defaults BelowJoinUp a b c = refl
rest_by_defaults AboveFloor a b c = refl

pub exact_told : (relation : Relation) (a b c : LabelValue) (fs : List Failure) (rest : Option Ranks)
    → fs ≡ failing (left relation a b c) (right relation a b c)
    → rest ≡ failing_rest (left relation a b c) (right relation a b c)
    → IsExact (left relation a b c) (right relation a b c) fs rest
exact_told relation a b c fs rest e f =
    let P : List Failure → Type 0 = λ xs. IsExact (left relation a b c) (right relation a b c) xs
    (failing_rest (left relation a b c) (right relation a b c)) in
    let Q : Option Ranks → Type 0 = λ o. IsExact (left relation a b c) (right relation a b c) fs o in
    subst Q (sym f) (subst P (sym e) (failing_is_exact relation a b c))

pub holds_told : (relation : Relation) (a b c : LabelValue) (fs : List Failure) (rest : Option Ranks)
    → fs ≡ failing (left relation a b c) (right relation a b c)
    → rest ≡ failing_rest (left relation a b c) (right relation a b c)
    → compares relation a b c ≡ (is_nil fs && is_none rest)
holds_told relation a b c fs rest e f =
    holds_where_none_fails relation a b c ∙ ap (λ xs. is_nil xs && is_none (failing_rest (left relation a b c) (right relation a b c))) (sym e)
    ∙ ap (λ o. is_nil fs && is_none o) (sym f)
