-- How often ids stand in lists.
use Rattle.std.proofs.Common.{◌≡◌, ℕ, zero, suc, ◌+◌, ◌<◌, ◌==◌, ◌&&◌, ◌||◌, Bool, true, false, cond, not, nat_lt, nat_le}
use Rattle.std.proofs.Common.{List, [], ◌∷◌, ◌++◌, length, take, slice_index_or, Some, sum_by, refl, sym, ◌∙◌, ap, subst}
use Rattle.std.proofs.Common.{arith, inl, inr}
use Rattle.std.specs.List.{list_all}
use Rattle.std.specs.Option.{unwrap_or}
use Rattle.std.specs.Ordering.{nat_cmp}
use Rattle.std.specs.BTreeMap.{BTreeMap, get, is_at}
use Rattle.std.proofs.lemmas.Bool.{and_parts, and_from, and_right, or_parts, or_cases, or_right, both_ways, cases_Bool}
use Rattle.std.proofs.lemmas.Bool.{eqb-true, eqb-false, eq-eqb, ne_eqb, lt-ltb, le-leb, lt-leb, not-true, not_from_false}
use Rattle.std.proofs.lemmas.List.{take_more}
use Rattle.std.proofs.lemmas.List.Folds.{list_any-append}
use Rattle.std.proofs.lemmas.List.Sums.{sum_by-cons}
use Rattle.base.specs.Live.{has}
use Rattle.base.specs.declared.kinds.Kind.TheVariants as kinds
use Rattle.kernel_rules.specs.State.{listed, lists_of, is_kind}
use Rattle.kernel_rules.specs.WellFormed.{is_distinct, is_listed_rightly}
use Rattle.kernel_rules.specs.declared.objects.Object.{Object}
use Rattle.kernel_rules.proofs.LookupLaws.{at_is}
use Rattle.plain_core.specs.Counted.{count_in, capped, one_more}

pub same_swapped : (a b : ℕ) → (a == b) ≡ (b == a)
same_swapped a b = elim (cases_Bool (b == a)) [
  | inl is ↦ eq-eqb a b (sym (eqb-true b a is)) ∙ sym is
  | inr off ↦ ne_eqb a b (λ e. eqb-false b a off (sym e)) ∙ sym off
]

-- one more at an id
pub counted_one : (m n : BTreeMap ℕ ℕ) (k v : ℕ)
    → ((q : ℕ) → get nat_cmp n q ≡ cond (is_at (nat_cmp k) q) (Some v) (get nat_cmp m q))
    → count_in m k < 2 → v ≡ count_in m k + 1
    → (q : ℕ) → count_in n q ≡ cond (q == k) (one_more (count_in m q)) (count_in m q)
counted_one m n k v puts few is q =
    ap (λ o. unwrap_or o 0) (puts q)
    ∙ ap (λ b. unwrap_or (cond b (Some v) (get nat_cmp m q)) 0) (at_is k q ∙ same_swapped k q)
    ∙ elim (q == k) as (λ b. (q == k) ≡ b → unwrap_or (cond b (Some v) (get nat_cmp m q)) 0
    ≡ cond b (one_more (count_in m q)) (count_in m q)) [
      | false ↦ λ off. refl
      | true ↦ λ on.
          let same : q ≡ k = eqb-true q k on in
          let less : nat_lt (count_in m k) 2 ≡ true = lt-ltb (count_in m k) 2 few in
          let here : one_more (count_in m k) ≡ count_in m k + 1
          = ap (λ b. cond b (count_in m k + 1) (count_in m k)) less in
          is ∙ sym here ∙ ap (λ j. one_more (count_in m j)) (sym same)
    ] refl

-- what stands at a place of a list is in it
has_at : (xs : List ℕ) (i x : ℕ) → i < length xs → x ≡ slice_index_or xs i x → has xs x ≡ true
has_at [] i x within is = absurd (omega arith)
has_at (y ∷ ys) zero x within is = ap (λ b. b || has ys x) (eq-eqb x y is)
has_at (y ∷ ys) (suc i) x within is = or_right (x == y) (has ys x) (has_at ys i x (omega arith) is)

-- an id that stands before the place too stands twice
pub twice : (xs : List ℕ) (i x : ℕ) → i < length xs → x ≡ slice_index_or xs i x → has (take i xs) x ≡ true
    → is_distinct xs ≡ false
twice [] i x within is before = absurd (omega arith)
twice (y ∷ ys) zero x within is before = absurd (both_ways false refl before)
twice (y ∷ ys) (suc i) x within is before = elim (or_cases (x == y) (has (take i ys) x) before) [
  | inl on ↦
      let same : x ≡ y = eqb-true x y on in
      let later : has ys y ≡ true = subst (λ z. has ys z ≡ true) same (has_at ys i x (omega arith) is) in
      ap (λ b. not b && is_distinct ys) later
  | inr there ↦ and_right (not (has ys y)) (is_distinct ys) (twice ys i x (omega arith) is there)
]

pub not_before : (xs : List ℕ) (i x : ℕ) → i < length xs → x ≡ slice_index_or xs i x → is_distinct xs ≡ true
    → has (take i xs) x ≡ false
not_before xs i x within is distinct = elim (cases_Bool (has (take i xs) x)) [
  | inl before ↦ absurd (both_ways (is_distinct xs) (twice xs i x within is before) distinct)
  | inr off ↦ off
]

distinct_push : (xs : List ℕ) (x : ℕ) → is_distinct xs ≡ true → has xs x ≡ false
    → is_distinct (xs ++ x ∷ []) ≡ true
distinct_push [] x h off = refl
distinct_push (y ∷ ys) x h off =
    let parts = and_parts (not (has ys y)) (is_distinct ys) h in
    let other = or_parts (x == y) (has ys x) off in
    let far : (y == x) ≡ false = same_swapped y x ∙ other.0 in
    let none : has (ys ++ x ∷ []) y ≡ false =
    list_any-append (λ i. y == i) ys (x ∷ [])
    ∙ (λ i. not-true (has ys y) parts.0 i || (far i || false)) in
    and_from (not (has (ys ++ x ∷ []) y)) (is_distinct (ys ++ x ∷ [])) (not_from_false (has (ys ++ x ∷ []) y) none)
    (distinct_push ys x parts.1 other.1)

-- the list up to the next place
next_place : (xs : List ℕ) (i x : ℕ) → i < length xs → x ≡ slice_index_or xs i x
    → take (i + 1) xs ≡ take i xs ++ x ∷ []
next_place xs i x within is = take_more xs i x within ∙ ap (λ z. take i xs ++ z ∷ []) (sym is)

pub distinct_more : (xs : List ℕ) (i x : ℕ) → i < length xs → x ≡ slice_index_or xs i x
    → is_distinct (take i xs) ≡ true → has (take i xs) x ≡ false → is_distinct (take (i + 1) xs) ≡ true
distinct_more xs i x within is h off = ap is_distinct (next_place xs i x within is) ∙ distinct_push (take i xs) x h off

pub has_more : (xs : List ℕ) (i x q : ℕ) → i < length xs → x ≡ slice_index_or xs i x
    → has (take (i + 1) xs) q ≡ (has (take i xs) q || (q == x))
has_more xs i x q within is =
    ap (λ ids. has ids q) (next_place xs i x within is) ∙ list_any-append (λ j. q == j) (take i xs) (x ∷ [])
    ∙ ap (λ b. has (take i xs) q || b) (plain (q == x))
  where
    plain : (b : Bool) → (b || false) ≡ b
    plain true = refl
    plain false = refl

-- a set with one more, against the list up to the next place
pub seen_more : (xs : List ℕ) (i x q : ℕ) → i < length xs → x ≡ slice_index_or xs i x
    → cond (is_at (nat_cmp x) q) true (has (take i xs) q) ≡ has (take (i + 1) xs) q
seen_more xs i x q within is =
    ap (λ b. cond b true (has (take i xs) q)) (at_is x q ∙ same_swapped x q)
    ∙ either (q == x) (has (take i xs) q)
    ∙ sym (has_more xs i x q within is)
  where
    either : (a b : Bool) → cond a true b ≡ (b || a)
    either true true = refl
    either true false = refl
    either false true = refl
    either false false = refl

-- one more of the next id of a list in which none stands twice
pub listed_more : (xs : List ℕ) (i x q c d e : ℕ) → i < length xs → x ≡ slice_index_or xs i x
    → is_distinct xs ≡ true → d ≡ cond (has (take i xs) q) (one_more c) c → e ≡ cond (q == x) (one_more d) d
    → e ≡ cond (has (take (i + 1) xs) q) (one_more c) c
listed_more xs i x q c d e within is distinct before after =
    after
    ∙ elim (q == x) as (λ b. (q == x) ≡ b → cond b (one_more d) d
    ≡ cond (has (take i xs) q || b) (one_more c) c) [
      | true ↦ λ on.
          let off : has (take i xs) q ≡ false
          = subst (λ z. has (take i xs) z ≡ false) (sym (eqb-true q x on)) (not_before xs i x within is distinct) in
          let same : d ≡ c = before ∙ ap (λ b. cond b (one_more c) c) off in
          ap one_more same ∙ sym (ap (λ b. cond (b || true) (one_more c) c) off)
      | false ↦ λ off. before ∙ ap (λ b. cond b (one_more c) c) (plain (has (take i xs) q))
    ] refl
    ∙ sym (ap (λ b. cond b (one_more c) c) (has_more xs i x q within is))
  where
    plain : (b : Bool) → b ≡ (b || false)
    plain true = refl
    plain false = refl

-- one where it holds
abbrev once : Bool → ℕ
once b = cond b 1 0

count_push : (q : ℕ) (done : List (ℕ × Object)) (e : ℕ × Object)
    → sum_by (λ f. once (has f.1 q)) (lists_of (done ++ e ∷ []))
    ≡ sum_by (λ f. once (has f.1 q)) (lists_of done) + once (has (listed e.1.body) q)
count_push q [] e = sum_by-cons (λ (f : ℕ × List ℕ). once (has f.1 q)) (e.0, listed e.1.body) []
    ∙ swap (once (has (listed e.1.body) q))
  where
    swap : (n : ℕ) → n + 0 ≡ 0 + n
    swap n = omega arith
count_push q (d ∷ done) e =
    let new = sum_by-cons (λ (f : ℕ × List ℕ). once (has f.1 q)) (d.0, listed d.1.body) (lists_of (done ++ e ∷ [])) in
    let old = sum_by-cons (λ (f : ℕ × List ℕ). once (has f.1 q)) (d.0, listed d.1.body) (lists_of done) in
    let rest = count_push q done e in
    omega arith

capped_more : (n : ℕ) → capped (suc n) ≡ one_more (capped n)
capped_more zero = refl
capped_more (suc zero) = refl
capped_more (suc (suc n)) = refl

capped_plus : (n : ℕ) (b : Bool) → capped (n + once b) ≡ cond b (one_more (capped n)) (capped n)
capped_plus n true = ap capped (next n) ∙ capped_more n
  where
    next : (n : ℕ) → n + 1 ≡ suc n
    next n = omega arith
capped_plus n false = ap capped (same n)
  where
    same : (n : ℕ) → n + 0 ≡ n
    same n = omega arith

-- the counts of the lists so far, with one list more
pub lists_more : (done : List (ℕ × Object)) (e : ℕ × Object) (m n : BTreeMap ℕ ℕ)
    → ((q : ℕ) → count_in m q ≡ capped (sum_by (λ f. cond (has f.1 q) 1 0) (lists_of done)))
    → ((q : ℕ) → count_in n q ≡ cond (has (listed e.1.body) q) (one_more (count_in m q)) (count_in m q))
    → (q : ℕ) → count_in n q ≡ capped (sum_by (λ f. cond (has f.1 q) 1 0) (lists_of (done ++ e ∷ [])))
lists_more done e m n before more q =
    more q
    ∙ ap (λ c. cond (has (listed e.1.body) q) (one_more c) c) (before q)
    ∙ sym (capped_plus (sum_by (λ f. once (has f.1 q)) (lists_of done)) (has (listed e.1.body) q))
    ∙ sym (ap capped (count_push q done e))

pub all_push : (test : ℕ × Object → Bool) (done : List (ℕ × Object)) (e : ℕ × Object) → list_all test done ≡ true
    → test e ≡ true → list_all test (done ++ e ∷ []) ≡ true
all_push test [] e h last = and_from (test e) true last refl
all_push test (d ∷ done) e h last =
    let parts = and_parts (test d) (list_all test done) h in
    and_from (test d) (list_all test (done ++ e ∷ [])) parts.0 (all_push test done e parts.1 last)

pub seam : {X : Type 0} (done : List X) (e : X) (rest : List X) → (done ++ e ∷ []) ++ rest ≡ done ++ e ∷ rest
seam [] e rest = refl
seam (d ∷ done) e rest = ap (λ t. d ∷ t) (seam done e rest)

-- what counts up to two tells all that a lister's number has to
pub rightly_capped : (n o : ℕ) (x : Object) → is_listed_rightly (capped n) o x ≡ is_listed_rightly n o x
rightly_capped zero o x = refl
rightly_capped (suc zero) o x = refl
rightly_capped (suc (suc n)) o x =
    let none : (suc (suc n) == 0) ≡ false = ne_eqb (suc (suc n)) 0 (λ e. absurd (omega arith)) in
    let one : (suc (suc n) == 1) ≡ false = ne_eqb (suc (suc n)) 1 (λ e. absurd (omega arith)) in
    let some : nat_le 1 (suc (suc n)) ≡ true = le-leb 1 (suc (suc n)) (omega arith) in
    let few : nat_le (suc (suc n)) 1 ≡ false = lt-leb (suc (suc n)) 1 (omega arith) in
    sym (λ i. cond (o == 1) (none i) (cond (is_kind kinds.Container x) (one i) (some i && (few i || x.fixed))))
