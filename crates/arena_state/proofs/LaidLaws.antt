-- The tree of entries, as it is laid.
use Rattle.std.proofs.Common.{◌≡◌, ◌≢◌, ℕ, zero, suc, ◌+◌, ◌<◌, ◌≤◌, Bool, true, false, cond, not, ◌&&◌, ◌||◌, ◌==◌, nat_lt, ◌⊎◌, List, [], ◌∷◌, ◌++◌, length, get_or, take, refl, sym, ap, ap₂, ◌∙◌, arith, inl, inr}
use Rattle.std.specs.Prelude.{All}
use Rattle.std.specs.List.{list_all}
use Rattle.std.proofs.lemmas.List.{map-append}
use Rattle.std.proofs.lemmas.List.Folds.{list_any-append}
use Rattle.std.proofs.lemmas.Bool.{ltb-true, or_cases, cases_Bool, both_ways, eqb-true, eq-eqb, and_parts}
use Rattle.std.proofs.lemmas.List.Sums.{sum_by-cons, sum_by-append}
use Rattle.base.specs.Live.{has, links}
use Rattle.containers.specs.Objects.{Rises}
use Rattle.containers.specs.Tree.{ids_in, list_of, add_lists, link_count}
use Rattle.containers.proofs.Lists.{or_no_left, or_no_right, rises_tail, above_absent, apart_test}
use Rattle.containers.proofs.Views.{has_at}
use Rattle.kernel_rules.specs.State.{lists_of, listed}
use Rattle.kernel_rules.specs.WellFormed.{ids_rise, is_distinct}
use Rattle.kernel_rules.specs.declared.objects.Object.{Object}
use Rattle.arena_state.specs.Restored.{bare, given, laid}

pub ids_given : (lists : List (ℕ × List ℕ)) (d : ℕ) (ids : List ℕ) → ids_in (given lists d ids) ≡ ids_in lists
ids_given [] d ids = refl
ids_given (e ∷ es) d ids = ap (λ (xs : List ℕ). e.0 ∷ xs) (ids_given es d ids)

pub given_none : (lists : List (ℕ × List ℕ)) (d : ℕ) (ids : List ℕ) → has (ids_in lists) d ≡ false → given lists d ids ≡ lists
given_none [] d ids h = refl
given_none (e ∷ es) d ids h =
    let off : (d == e.0) ≡ false = or_no_left (d == e.0) (has (ids_in es) d) h in
    let rest : has (ids_in es) d ≡ false = or_no_right (d == e.0) (has (ids_in es) d) h in
    (λ i. (e.0, cond (off i) ids e.1) ∷ given_none es d ids rest i)

-- a list that is empty
pub given_empty : (lists : List (ℕ × List ℕ)) (d : ℕ) → Rises (ids_in lists) → list_of lists d ≡ [] → given lists d [] ≡ lists
given_empty [] d rise h = refl
given_empty (e ∷ es) d rise h = elim (cases_Bool (d == e.0)) [
  | inl is ↦
      let same : d ≡ e.0 = eqb-true d e.0 is in
      let absent : has (ids_in es) d ≡ false = ap (has (ids_in es)) same ∙ above_absent e.0 (ids_in es) rise in
      let empty : e.1 ≡ [] = sym (ap (λ (b : Bool). cond b e.1 (list_of es d)) is) ∙ h in
      (λ i. (e.0, cond (is i) [] e.1) ∷ given_none es d [] absent i)
      ∙ ap (λ (xs : List ℕ). let f : ℕ × List ℕ = (e.0, xs) in f ∷ es) (sym empty)
  | inr off ↦
      let rest : list_of es d ≡ [] = sym (ap (λ (b : Bool). cond b e.1 (list_of es d)) off) ∙ h in
      (λ i. (e.0, cond (off i) [] e.1) ∷ given_empty es d (rises_tail e.0 (ids_in es) rise) rest i)
]

-- one more id at its end
pub given_more : (lists : List (ℕ × List ℕ)) (d : ℕ) (ids : List ℕ) (o : ℕ) → add_lists (given lists d ids) d o ≡ given lists d (ids ++ o ∷ [])
given_more [] d ids o = refl
given_more (e ∷ es) d ids o = λ i. (e.0, here (d == e.0) i) ∷ given_more es d ids o i
  where
    here : (b : Bool) → cond b (cond b ids e.1 ++ o ∷ []) (cond b ids e.1) ≡ cond b (ids ++ o ∷ []) e.1
    here true = refl
    here false = refl

-- what others list is as it was
pub links_beside : (lists : List (ℕ × List ℕ)) (d : ℕ) (ids : List ℕ) (a b : ℕ) → a ≢ d → links (given lists d ids) a b ≡ links lists a b
links_beside [] d ids a b ne = refl
links_beside (e ∷ es) d ids a b ne = elim (cases_Bool (a == e.0)) [
  | inl is ↦
      let off : (d == e.0) ≡ false = apart_test d e.0 (λ (same : d ≡ e.0). ne (eqb-true a e.0 is ∙ sym same)) in
      (λ i. ((a == e.0) && has (cond (off i) ids e.1) b) || links_beside es d ids a b ne i)
  | inr not_here ↦
      (λ i. (not_here i && has (cond (d == e.0) ids e.1) b) || links_beside es d ids a b ne i)
      ∙ (λ i. (sym not_here i && has e.1 b) || links es a b)
]

-- its own list is the one that is given
pub links_given : (lists : List (ℕ × List ℕ)) (d : ℕ) (ids : List ℕ) (o : ℕ) → has ids o ≡ false → links (given lists d ids) d o ≡ false
links_given [] d ids o h = refl
links_given (e ∷ es) d ids o h = elim (cases_Bool (d == e.0)) [
  | inl is ↦ (λ i. (is i && has (cond (is i) ids e.1) o) || links_given es d ids o h i) ∙ (λ i. h i || false)
  | inr off ↦ (λ i. (off i && has (cond (d == e.0) ids e.1) o) || links_given es d ids o h i)
]

pub count_given : (lists : List (ℕ × List ℕ)) (d : ℕ) (ids : List ℕ) → Rises (ids_in lists) → link_count (given lists d ids) ≤ link_count lists + length ids
count_given [] d ids rise = omega arith
count_given (e ∷ es) d ids rise =
    let f : ℕ × List ℕ → ℕ = λ g. length g.1 in
    let new : link_count (given (e ∷ es) d ids) ≡ length (cond (d == e.0) ids e.1) + link_count (given es d ids)
    = sum_by-cons f (e.0, cond (d == e.0) ids e.1) (given es d ids) in
    let old : link_count (e ∷ es) ≡ length e.1 + link_count es = sum_by-cons f e es in
    elim (cases_Bool (d == e.0)) [
      | inl is ↦
          let same : d ≡ e.0 = eqb-true d e.0 is in
          let absent : has (ids_in es) d ≡ false = ap (has (ids_in es)) same ∙ above_absent e.0 (ids_in es) rise in
          let here : length (cond (d == e.0) ids e.1) ≡ length ids = ap (λ (b : Bool). length (cond b ids e.1)) is in
          omega (arith, new, old, here, ap link_count (given_none es d ids absent))
      | inr off ↦
          let here : length (cond (d == e.0) ids e.1) ≡ length e.1 = ap (λ (b : Bool). length (cond b ids e.1)) off in
          omega (arith, new, old, here, count_given es d ids (rises_tail e.0 (ids_in es) rise))
    ]

-- an id is not among those before it
pub fresh_at : (ids : List ℕ) (i : ℕ) → is_distinct ids ≡ true → i < length ids → has (take i ids) (get_or ids i 0) ≡ false
fresh_at [] i h lt = absurd (omega (arith, lt))
fresh_at (x ∷ xs) zero h lt = refl
fresh_at (x ∷ xs) (suc i) h lt =
    let parts = and_parts (not (has xs x)) (is_distinct xs) h in
    let y = get_or xs i 0 in
    let within : i < length xs = omega (arith, lt) in
    let off : (y == x) ≡ false = apart_test y x (λ (e : y ≡ x).
    both_ways (not (has xs x)) (ap not (has_at xs i x within e)) parts.0) in
    (λ j. off j || fresh_at xs i parts.1 within j)

-- one in the middle
all_middle : (p : ℕ × Object → Bool) (xs : List (ℕ × Object)) (e : ℕ × Object) (ys : List (ℕ × Object)) → list_all p (xs ++ e ∷ ys) ≡ true → p e ≡ true
all_middle p [] e ys h = (and_parts (p e) (list_all p ys) h).0
all_middle p (x ∷ xs) e ys h = all_middle p xs e ys (and_parts (p x) (list_all p (xs ++ e ∷ ys)) h).1

-- ids before one in a rising list are less
pub before_less : (done : List (ℕ × Object)) (e : ℕ × Object) (rest : List (ℕ × Object)) → ids_rise (done ++ e ∷ rest) ≡ true → All (λ i. i < e.0) (ids_in (bare done))
before_less [] e rest h k d lt = absurd (omega (arith, lt))
before_less (f ∷ fs) e rest h zero d lt =
    ltb-true f.0 e.0 (all_middle (λ g. nat_lt f.0 g.0) fs e rest (and_parts (list_all (λ g. nat_lt f.0 g.0) (fs ++ e ∷ rest)) (ids_rise (fs ++ e ∷ rest)) h).0)
before_less (f ∷ fs) e rest h (suc k) d lt =
    before_less fs e rest (and_parts (list_all (λ g. nat_lt f.0 g.0) (fs ++ e ∷ rest)) (ids_rise (fs ++ e ∷ rest)) h).1 k d (omega (arith, lt))

abbrev pub first_id : List (ℕ × Object) → ℕ
first_id [] = 0
first_id (e ∷ es) = e.0

-- the root comes first, and what comes later has a greater id
pub root_or_later : (done : List (ℕ × Object)) (e : ℕ × Object) (rest entries : List (ℕ × Object)) → done ++ e ∷ rest ≡ entries
    → first_id entries ≡ 1 → ids_rise entries ≡ true
    → ((done ≡ []) × (e.0 ≡ 1)) ⊎ ((0 < length done) × (1 < e.0))
root_or_later [] e rest entries same root rise = inl (refl, ap first_id same ∙ root)
root_or_later (f ∷ fs) e rest entries same root rise =
    let one : f.0 ≡ 1 = ap first_id same ∙ root in
    let less : f.0 < e.0 = before_less (f ∷ fs) e rest (ap ids_rise same ∙ rise) 0 0 (omega arith) in
    inr (omega arith, omega (arith, one, less))

pub laid_more : (done : List (ℕ × Object)) (e : ℕ × Object) → 0 < length done → laid (done ++ e ∷ []) ≡ laid done ++ (e.0, []) ∷ []
laid_more [] e h = absurd (omega (arith, h))
laid_more (f ∷ fs) e h = map-append {B = ℕ × List ℕ} (λ (g : ℕ × Object). (g.0, [])) (f ∷ fs) (e ∷ [])

pub laid_all : (all : List (ℕ × Object)) → 0 < length all → laid all ≡ bare all
laid_all [] h = absurd (omega (arith, h))
laid_all (e ∷ es) h = refl

pub bare_length : (all : List (ℕ × Object)) → length (ids_in (bare all)) ≡ length all
bare_length [] = refl
bare_length (e ∷ es) = ap suc (bare_length es)

-- the ids, of what lists something and what does not
pub ids_shape : (done rest : List (ℕ × Object)) → ids_in (lists_of done ++ bare rest) ≡ ids_in (bare (done ++ rest))
ids_shape [] rest = refl
ids_shape (e ∷ es) rest = ap (λ (xs : List ℕ). e.0 ∷ xs) (ids_shape es rest)

less_at : (n : ℕ) (es : List (ℕ × Object)) (k : ℕ) → list_all (λ f. nat_lt n f.0) es ≡ true → k < length (ids_in (bare es)) → n < get_or (ids_in (bare es)) k 0
less_at n [] k h lt = absurd (omega (arith, lt))
less_at n (e ∷ es) zero h lt = ltb-true n e.0 (and_parts (nat_lt n e.0) (list_all (λ f. nat_lt n f.0) es) h).0
less_at n (e ∷ es) (suc k) h lt = less_at n es k (and_parts (nat_lt n e.0) (list_all (λ f. nat_lt n f.0) es) h).1 (omega (arith, lt))

pub rises_ids : (es : List (ℕ × Object)) → ids_rise es ≡ true → Rises (ids_in (bare es))
rises_ids [] h i j less within = absurd (omega (arith, within))
rises_ids (e ∷ es) h i zero less within = absurd (omega (arith, less))
rises_ids (e ∷ es) h zero (suc j) less within =
    less_at e.0 es j (and_parts (list_all (λ f. nat_lt e.0 f.0) es) (ids_rise es) h).0 (omega (arith, within))
rises_ids (e ∷ es) h (suc i) (suc j) less within =
    rises_ids es (and_parts (list_all (λ f. nat_lt e.0 f.0) es) (ids_rise es) h).1 i j (omega (arith, less)) (omega (arith, within))

pub absent_before : (xs : List ℕ) (d : ℕ) → All (λ i. i < d) xs → has xs d ≡ false
absent_before [] d less = refl
absent_before (x ∷ xs) d less =
    let off : (d == x) ≡ false = apart_test d x (λ (e : d ≡ x). omega (arith, e, less 0 0 (omega arith))) in
    (λ i. off i || absent_before xs d (λ k y lt. less (suc k) y (omega (arith, lt))) i)

pub has_middle : (before : List (ℕ × List ℕ)) (d : ℕ) (l : List ℕ) (after : List (ℕ × List ℕ)) → has (ids_in (before ++ (d, l) ∷ after)) d ≡ true
has_middle [] d l after = ap (λ (b : Bool). b || has (ids_in after) d) (eq-eqb d d refl)
has_middle (e ∷ es) d l after = or_right' (d == e.0) (has (ids_in (es ++ (d, l) ∷ after)) d) (has_middle es d l after)
  where
    or_right' : (a b : Bool) → b ≡ true → (a || b) ≡ true
    or_right' true b h = refl
    or_right' false b h = h

pub list_middle : (before : List (ℕ × List ℕ)) (d : ℕ) (l : List ℕ) (after : List (ℕ × List ℕ)) → has (ids_in before) d ≡ false → list_of (before ++ (d, l) ∷ after) d ≡ l
list_middle [] d l after h = ap (λ (b : Bool). cond b l (list_of after d)) (eq-eqb d d refl)
list_middle (e ∷ es) d l after h =
    ap (λ (b : Bool). cond b e.1 (list_of (es ++ (d, l) ∷ after) d)) (or_no_left (d == e.0) (has (ids_in es) d) h)
    ∙ list_middle es d l after (or_no_right (d == e.0) (has (ids_in es) d) h)

pub given_middle : (before : List (ℕ × List ℕ)) (d : ℕ) (l : List ℕ) (after : List (ℕ × List ℕ)) (ids : List ℕ) → has (ids_in before) d ≡ false → has (ids_in after) d ≡ false
    → given (before ++ (d, l) ∷ after) d ids ≡ before ++ (d, ids) ∷ after
given_middle before d l after ids first last =
    map-append (λ (e : ℕ × List ℕ). (e.0, cond (d == e.0) ids e.1)) before ((d, l) ∷ after)
    ∙ ap₂ (λ (xs ys : List (ℕ × List ℕ)). xs ++ ys) (given_none before d ids first)
    (λ i. (d, cond (eq-eqb d d refl i) ids l) ∷ given_none after d ids last i)

pub links_split : (xs ys : List (ℕ × List ℕ)) (a b : ℕ) → links (xs ++ ys) a b ≡ true → (links xs a b ≡ true) ⊎ (links ys a b ≡ true)
links_split xs ys a b h = or_cases (links xs a b) (links ys a b) (sym (list_any-append (λ (e : ℕ × List ℕ). (a == e.0) && has e.1 b) xs ys) ∙ h)

pub links_left : (xs ys : List (ℕ × List ℕ)) (a b : ℕ) → links xs a b ≡ true → links (xs ++ ys) a b ≡ true
links_left xs ys a b h = list_any-append (λ (e : ℕ × List ℕ). (a == e.0) && has e.1 b) xs ys ∙ ap (λ (v : Bool). v || links ys a b) h

bare_count : (es : List (ℕ × Object)) → link_count (bare es) ≡ 0
bare_count [] = refl
bare_count (e ∷ es) = omega (arith, sum_by-cons (λ (f : ℕ × List ℕ). length f.1) (e.0, []) (bare es), bare_count es)

pub lists_append : (xs ys : List (ℕ × Object)) → lists_of (xs ++ ys) ≡ lists_of xs ++ lists_of ys
lists_append xs ys = map-append {B = ℕ × List ℕ} (λ (e : ℕ × Object). (e.0, listed e.1.body)) xs ys

-- the links so far, and those of the next object, are no more than all
pub count_room : (done : List (ℕ × Object)) (e : ℕ × Object) (rest : List (ℕ × Object))
    → link_count (lists_of done ++ bare (e ∷ rest)) + length (listed e.1.body) ≤ link_count (lists_of (done ++ e ∷ rest))
count_room done e rest =
    let f : ℕ × List ℕ → ℕ = λ g. length g.1 in
    let now : link_count (lists_of done ++ bare (e ∷ rest)) ≡ link_count (lists_of done) + link_count (bare (e ∷ rest)) = sum_by-append f (lists_of done) (bare (e ∷ rest)) in
    let then : link_count (lists_of done ++ lists_of (e ∷ rest)) ≡ link_count (lists_of done) + link_count (lists_of (e ∷ rest)) = sum_by-append f (lists_of done) (lists_of (e ∷ rest)) in
    let here : link_count (lists_of (e ∷ rest)) ≡ length (listed e.1.body) + link_count (lists_of rest) = sum_by-cons f (e.0, listed e.1.body) (lists_of rest) in
    omega (arith, now, then, here, bare_count (e ∷ rest), ap link_count (lists_append done (e ∷ rest)))

-- the next object lists what it lists
pub lists_more : (done : List (ℕ × Object)) (e : ℕ × Object) (rest : List (ℕ × Object))
    → lists_of done ++ (e.0, listed e.1.body) ∷ bare rest ≡ lists_of (done ++ e ∷ []) ++ bare rest
lists_more [] e rest = refl
lists_more (f ∷ fs) e rest = ap (λ (t : List (ℕ × List ℕ)). (f.0, listed f.1.body) ∷ t) (lists_more fs e rest)
