-- One step of the walk leaves what is asked of all categories as it was.
use Rattle.std.proofs.Common.{◌≡◌, ◌≢◌, ℕ, zero, suc, ◌+◌, ◌<◌, ◌≤◌, inl, inr, Bool, IsTrue, List}
use Rattle.std.proofs.Common.{[], ◌∷◌, length, drop, get_or, refl, ◌∙◌, subst, arith, max}
use Rattle.std.proofs.Common.{true, false, ◌&&◌, ◌↔◌, sym}
use Rattle.std.proofs.Math.ListN.{drop_of_length-le}
use Rattle.std.proofs.lemmas.Bool.Decides.{nat_tests}
use Rattle.std.proofs.Common.{◌⊎◌}
use Rattle.std.proofs.lemmas.Bool.{cases_eq, leb-true, leb-false}
use Rattle.std.proofs.Common.{cond, leb}
use Rattle.base.specs.declared.levels.Level.{Level}
use Rattle.label_lattice.specs.declared.pairings.Pair.{Pair}
use Rattle.label_lattice.specs.Columns.{filler}
use Rattle.label_lattice.specs.Levels.{level_at, next_of, IsRising, IsAbove}
use Rattle.label_lattice.specs.Walk.{Takes, TakesBoth, category_at}
use Rattle.label_lattice.specs.Walk.{HoldsEverywhere, ComparesOn}
use Rattle.std.proofs.Common.{slice_index_or, add-one}

-- both parts of a conjunction
pub and_parts : (x y : Bool) → IsTrue (x && y) → IsTrue x × IsTrue y
and_parts true y h = (refl, h)
and_parts false y h = absurd (let e : false ≡ true = h in cc)

pub and_both : (x y : Bool) → IsTrue x → IsTrue y → IsTrue (x && y)
and_both true y hx hy = hy
and_both false y hx hy = hx

-- what is above a number is above a smaller one
pub IsAbove-lower : (ps : List Pair) (m n : ℕ) → m ≤ n → IsAbove n ps → IsAbove m ps
IsAbove-lower [] m n h above = tt
IsAbove-lower (p ∷ ps) m n h above = (omega (arith, above.0), IsAbove-lower ps m n h above.1)

-- a category below all of the list has the default
pub level_at-above : (default : Level) (ps : List Pair) (m : ℕ) → IsAbove m ps
    → level_at default ps m ≡ default
level_at-above default [] m above = refl
level_at-above default (p ∷ ps) m above =
    let rest : level_at default ps m ≡ default = level_at-above default ps m above.1 in
    let below : m < p.category.0 = above.0 in
    grind (arith, nat_tests)

-- the first pair's category has its level
pub level_at-same : (default : Level) (p : Pair) (ps : List Pair) (m : ℕ) → p.category.0 ≡ m
    → level_at default (p ∷ ps) m ≡ p.level
level_at-same default p ps m e = grind (arith, nat_tests)

-- another category has the level of the rest
pub level_at-other : (default : Level) (p : Pair) (ps : List Pair) (m : ℕ) → m ≢ p.category.0
    → level_at default (p ∷ ps) m ≡ level_at default ps m
level_at-other default p ps m ne = grind (arith, nat_tests)

-- the first pair is taken
pub Takes-head : (default : Level) (p : Pair) (ps : List Pair) (m : ℕ) → IsAbove p.category.0 ps
    → p.category.0 ≡ m → Takes default (p ∷ ps) m p.level ps
Takes-head default p ps m above e = record {
  here = level_at-same default p ps m e;
  gone = level_at-above default ps m (subst (λ k. IsAbove k ps) e above);
  others = λ k ne. level_at-other default p ps k (λ same. ne (same ∙ e));
}

-- nothing is taken
pub Takes-none : (default : Level) (ps : List Pair) (m : ℕ) → IsAbove m ps
    → Takes default ps m default ps
Takes-none default ps m above = record {
  here = level_at-above default ps m above;
  gone = level_at-above default ps m above;
  others = λ k ne. refl;
}

-- the pair at a place is taken
pub Takes-at : (default : Level) (ps : List Pair) (i m : ℕ) (p : Pair) → IsRising ps → i < length ps
    → (get_or ps i p).category.0 ≡ m
    → Takes default (drop i ps) m (get_or ps i p).level (drop (suc i) ps)
Takes-at default [] i m p rising within same = absurd (omega (arith, within))
Takes-at default (q ∷ qs) zero m p rising within same = Takes-head default q qs m rising.0 same
Takes-at default (q ∷ qs) (suc i) m p rising within same =
    Takes-at default qs i m p rising.1 (omega (arith, within)) same

-- a number that is not above the place's category and not it is below all that is left
pub IsAbove-drop : (ps : List Pair) (i m : ℕ) (p : Pair) → IsRising ps → m ≤ next_of (drop i ps)
    → (i < length ps → (get_or ps i p).category.0 ≢ m)
    → IsAbove m (drop i ps)
IsAbove-drop [] zero m p rising least other = tt
IsAbove-drop [] (suc i) m p rising least other = tt
IsAbove-drop (q ∷ qs) zero m p rising least other =
    let ne : q.category.0 ≢ m = other (omega arith) in
    let low : m ≤ q.category.0 = least in
    let lt : m < q.category.0 = omega arith in
    (lt, IsAbove-lower qs m q.category.0 (omega arith) rising.0)
IsAbove-drop (q ∷ qs) (suc i) m p rising least other =
    IsAbove-drop qs i m p rising.1 least (λ h. other (omega arith))

-- a number above each category of the list
pub past : List Pair → ℕ
past [] = 0
past (p ∷ ps) = max (suc p.category.0) (past ps)

-- from there on each category has the default
pub level_at-past : (default : Level) (ps : List Pair) (k : ℕ) → past ps ≤ k
    → level_at default ps k ≡ default
unfolding past
level_at-past default [] k h = refl
level_at-past default (p ∷ ps) k h =
    level_at-other default p ps k (omega arith) ∙ level_at-past default ps k (omega arith)

module _ (t : Level → Level → Level → Bool) (da db dc : Level) where
  -- a step whose test holds leaves the question as it was
  pub step_forth : (m : ℕ) (a a' b b' c c' : List Pair) (x y z : Level)
      → Takes da a m x a' → Takes db b m y b' → Takes dc c m z c' → IsTrue (t x y z)
      → HoldsEverywhere t da a' db b' dc c' → HoldsEverywhere t da a db b dc c
  step_forth m a a' b b' c c' x y z ta tb tc holds rest k =
      elim (cases_eq k m) [
        | inl same ↦ rw (same, ta.here, tb.here, tc.here) holds
        | inr other ↦ rw (ta.others k other, tb.others k other, tc.others k other) (rest k)
      ]

  pub step_back : (m : ℕ) (a a' b b' c c' : List Pair) (x y z : Level)
      → Takes da a m x a' → Takes db b m y b' → Takes dc c m z c' → IsTrue (t da db dc)
      → HoldsEverywhere t da a db b dc c → HoldsEverywhere t da a' db b' dc c'
  step_back m a a' b b' c c' x y z ta tb tc rest_holds whole k =
      elim (cases_eq k m) [
        | inl same ↦ rw (same, ta.gone, tb.gone, tc.gone) rest_holds
        | inr other ↦ rw (← ta.others k other, ← tb.others k other, ← tc.others k other) (whole k)
      ]

  -- where everything holds, so does the test of the defaults
  pub default_test : (a b c : List Pair) → HoldsEverywhere t da a db b dc c → IsTrue (t da db dc)
  default_test a b c whole =
      let k : ℕ = past a + past b + past c in
      let ea : level_at da a k ≡ da = level_at-past da a k (omega arith) in
      let eb : level_at db b k ≡ db = level_at-past db b k (omega arith) in
      let ec : level_at dc c k ≡ dc = level_at-past dc c k (omega arith) in
      rw (ea, eb, ec) at (whole k)

  -- where everything holds, so does the step's test
  pub step_test : (m : ℕ) (a a' b b' c c' : List Pair) (x y z : Level)
      → Takes da a m x a' → Takes db b m y b' → Takes dc c m z c'
      → HoldsEverywhere t da a db b dc c → IsTrue (t x y z)
  step_test m a a' b b' c c' x y z ta tb tc whole =
      rw (← ta.here, ← tb.here, ← tc.here) (whole m)

-- what the walk keeps: what is left of the lists decides the answer
pub record WalkGoesOn (t : Level → Level → Level → Bool) (da db dc : Level) (a b c : List Pair)
    (i j k : ℕ) : Type 0 where
  pub a_within : i ≤ length a
  pub b_within : j ≤ length b
  pub c_within : k ≤ length c
  pub forth : HoldsEverywhere t da (drop i a) db (drop j b) dc (drop k c)
      → HoldsEverywhere t da a db b dc c
  pub back : HoldsEverywhere t da a db b dc c
      → HoldsEverywhere t da (drop i a) db (drop j b) dc (drop k c)

-- the beginning
pub compare_none : (t : Level → Level → Level → Bool) (da db : Level) (a b : List Pair) (r : Bool)
    → r ≡ t da db db → ComparesOn t da db a b 0 0 r
compare_none t da db a b r e = record {
  defaults = λ h. sym e ∙ h;
  forth = λ h rest. rest;
  so_far = λ whole. e ∙ default_test t da db db a b b whole;
  back = λ whole. whole;
}

-- a turn
pub compare_more : (t : Level → Level → Level → Bool) (da db : Level) (a b : List Pair)
    (i j : ℕ) (r : Bool) (m i' j' : ℕ) (x y : Level) (r' : Bool) → ComparesOn t da db a b i j r
    → Takes da (drop i a) m x (drop i' a) → Takes db (drop j b) m y (drop j' b)
    → r' ≡ (r && t x y y) → ComparesOn t da db a b i' j' r'
compare_more t da db a b i j r m i' j' x y r' on ta tb e = record {
  defaults = λ h. on.defaults (and_parts r (t x y y) (sym e ∙ h)).0;
  forth =
      λ h rest. on.forth (and_parts r (t x y y) (sym e ∙ h)).0
      (step_forth t da db db m (drop i a) (drop i' a) (drop j b) (drop j' b) (drop j b) (drop j' b)
      x y y ta tb tb (and_parts r (t x y y) (sym e ∙ h)).1 rest);
  so_far =
      λ whole. e ∙ and_both r (t x y y) (on.so_far whole)
      (step_test t da db db m (drop i a) (drop i' a) (drop j b) (drop j' b) (drop j b) (drop j' b)
      x y y ta tb tb (on.back whole));
  back =
      λ whole. step_back t da db db m (drop i a) (drop i' a) (drop j b) (drop j' b) (drop j b)
      (drop j' b) x y y ta tb tb (on.defaults (on.so_far whole)) (on.back whole);
}

-- the end
pub compare_all : (t : Level → Level → Level → Bool) (da db : Level) (a b : List Pair)
    (i j : ℕ) (r : Bool) → ComparesOn t da db a b i j r → length a ≤ i → length b ≤ j
    → IsTrue r ↔ HoldsEverywhere t da a db b db b
compare_all t da db a b i j r on past_a past_b = (
  λ h. on.forth h
      (rw (drop_of_length-le a past_a, drop_of_length-le b past_b) (λ k. on.defaults h)),
  λ whole. on.so_far whole,
)

-- the end where it did not hold so far
pub compare_never : (t : Level → Level → Level → Bool) (da db : Level) (a b : List Pair)
    (i j : ℕ) (r : Bool) → ComparesOn t da db a b i j r → r ≡ false
    → IsTrue r ↔ HoldsEverywhere t da a db b db b
compare_never t da db a b i j r on none = (
  λ h. absurd (let e : false ≡ true = sym none ∙ h in cc),
  λ whole. on.so_far whole,
)

-- a number below the place's category is below all that is left
IsAbove-left : (ps : List Pair) (i m : ℕ) → IsRising ps → (i < length ps → m < category_at ps i)
    → IsAbove m (drop i ps)
IsAbove-left [] zero m rising below = tt
IsAbove-left [] (suc i) m rising below = tt
IsAbove-left (q ∷ qs) zero m rising below =
    let lt : m < q.category.0 = below (omega arith) in
    (lt, IsAbove-lower qs m q.category.0 (omega (arith, lt)) rising.0)
IsAbove-left (q ∷ qs) (suc i) m rising below =
    IsAbove-left qs i m rising.1 (λ h. below (omega (arith, h)))

-- where a place is past the end, the other is not
pub other_within : (i m j n : ℕ) → m ≤ i → (i < m) ⊎ (j < n) → j < n
other_within i m j n past (inl h) = absurd (omega arith)
other_within i m j n past (inr h) = h

pub one_within : (i m j n : ℕ) → n ≤ j → (i < m) ⊎ (j < n) → i < m
one_within i m j n past (inl h) = h
one_within i m j n past (inr h) = absurd (omega arith)

module _ (da db : Level) (a b : List Pair) (i j : ℕ) where
  -- the first list's category is taken
  pub takes_first : IsRising a → IsRising b → i < length a
      → (j < length b → category_at a i < category_at b j)
      → TakesBoth da (drop i a) db (drop j b) (slice_index_or a i filler).level db
      (drop (suc i) a) (drop j b)
  takes_first rising_a rising_b within first = record {
    category = category_at a i;
    first = Takes-at da a i (category_at a i) filler rising_a within refl;
    second =
        Takes-none db (drop j b) (category_at a i)
        (IsAbove-left b j (category_at a i) rising_b first);
  }

  -- the second's is
  pub takes_second : IsRising a → IsRising b → j < length b
      → (i < length a → category_at b j < category_at a i)
      → TakesBoth da (drop i a) db (drop j b) da (slice_index_or b j filler).level
      (drop i a) (drop (suc j) b)
  takes_second rising_a rising_b within first = record {
    category = category_at b j;
    first =
        Takes-none da (drop i a) (category_at b j)
        (IsAbove-left a i (category_at b j) rising_a first);
    second = Takes-at db b j (category_at b j) filler rising_b within refl;
  }

  -- one that both have is
  pub takes_both : IsRising a → IsRising b → i < length a → j < length b
      → category_at a i ≡ category_at b j
      → TakesBoth da (drop i a) db (drop j b) (slice_index_or a i filler).level
      (slice_index_or b j filler).level (drop (suc i) a) (drop (suc j) b)
  takes_both rising_a rising_b in_a in_b same = record {
    category = category_at b j;
    first = Takes-at da a i (category_at b j) filler rising_a in_a same;
    second = Takes-at db b j (category_at b j) filler rising_b in_b refl;
  }

-- what the turn takes where both lists have a category left
pub record TakesLower (da db : Level) (a b : List Pair) (i j : ℕ) (x y : Level) (m n : ℕ) : Type 0 where
  pub takes : TakesBoth da (drop i a) db (drop j b) x y (drop m a) (drop n b)
  pub a_within : m ≤ length a
  pub b_within : n ≤ length b
  pub onward : i + j < m + n

module _ (da db : Level) (a b : List Pair) (i j : ℕ) (rising_a : IsRising a) (rising_b : IsRising b) (in_a : i < length a) (in_b : j < length b) where
  pub takes_lower : (p q : Bool) (x y : Level) (m n : ℕ)
      → p ≡ leb (category_at a i) (category_at b j) → q ≡ leb (category_at b j) (category_at a i)
      → x ≡ cond p (slice_index_or a i filler).level da → y ≡ cond q (slice_index_or b j filler).level db
      → m ≡ cond p (i + 1) i → n ≡ cond q (j + 1) j → TakesLower da db a b i j x y m n
  takes_lower true true x y m n ep eq ex ey em en =
      let one = leb-true (category_at a i) (category_at b j) (sym ep) in
      let other = leb-true (category_at b j) (category_at a i) (sym eq) in
      record {
        takes = rw (ex, ey, em, en, add-one i, add-one j) (takes_both da db a b i j rising_a rising_b in_a in_b (omega arith));
        a_within = omega arith;
        b_within = omega arith;
        onward = omega arith;
      }
  takes_lower true false x y m n ep eq ex ey em en =
      let other = leb-false (category_at b j) (category_at a i) (sym eq) in
      record {
        takes = rw (ex, ey, em, en, add-one i) (takes_first da db a b i j rising_a rising_b in_a (λ h. omega arith));
        a_within = omega arith;
        b_within = omega arith;
        onward = omega arith;
      }
  takes_lower false true x y m n ep eq ex ey em en =
      let one = leb-false (category_at a i) (category_at b j) (sym ep) in
      record {
        takes = rw (ex, ey, em, en, add-one j) (takes_second da db a b i j rising_a rising_b in_b (λ h. omega arith));
        a_within = omega arith;
        b_within = omega arith;
        onward = omega arith;
      }
  takes_lower false false x y m n ep eq ex ey em en =
      let one = leb-false (category_at a i) (category_at b j) (sym ep) in
      let other = leb-false (category_at b j) (category_at a i) (sym eq) in absurd (omega arith)
