-- Laws of the lists of a tree: their ids, what links what, and what a cut, a filter and a link more leave.
use Rattle.std.proofs.Common.{◌≡◌, ◌≢◌, ◌⊎◌, ℕ, zero, suc, ◌<◌, Bool, true, false, cond, ◌||◌, ◌&&◌, ◌==◌, List, [], ◌∷◌, ◌++◌, length, get_or, refl, sym, ◌∙◌, ap, arith, inl, inr}
use Rattle.std.specs.List.{filter}
use Rattle.std.proofs.lemmas.Bool.{cases_Bool, both_ways, eqb-true, eq-eqb, and_parts}
use Rattle.containers.specs.Objects.{Rises}
use Rattle.base.specs.Live.{has, links}
use Rattle.containers.specs.Tree.{ids_in, list_of, cut_lists, add_lists, without}
use Rattle.containers.proofs.Views.{at_has}

-- a list with an element is not empty
pub no_room : (n : ℕ) → suc n ≡ 0 → ⊥
no_room n h = omega arith

-- different numbers fail the test
pub apart_test : (a b : ℕ) → a ≢ b → (a == b) ≡ false
apart_test a b h = elim (cases_Bool (a == b)) [
  | inl is ↦ absurd (h (eqb-true a b is))
  | inr off ↦ off
]

-- both parts fail
pub or_no_left : (a b : Bool) → (a || b) ≡ false → a ≡ false
or_no_left true b h = h
or_no_left false b h = refl

pub or_no_right : (a b : Bool) → (a || b) ≡ false → b ≡ false
or_no_right true b h = absurd (both_ways true h refl)
or_no_right false b h = h

-- what comes after the first of a rising list
pub rises_tail : (x : ℕ) (xs : List ℕ) → Rises (x ∷ xs) → Rises xs
rises_tail x xs h = λ i j lt within. h (suc i) (suc j) (omega arith) (omega arith)

pub rises_first : (x : ℕ) (xs : List ℕ) (k : ℕ) → Rises (x ∷ xs) → k < length xs → x < get_or xs k 0
rises_first x xs k h lt = h 0 (suc k) (omega arith) (omega arith)

pub above_absent : (x : ℕ) (xs : List ℕ) → Rises (x ∷ xs) → has xs x ≡ false
above_absent x xs rise = elim (cases_Bool (has xs x)) [
  | inl there ↦
      let at = at_has xs x there in
      let less : x < get_or xs at.0 0 = rises_first x xs at.0 rise at.1 in
      absurd (omega (arith, at.2))
  | inr off ↦ off
]

-- what the list of an id is
pub list_at_place : (lists : List (ℕ × List ℕ)) (k : ℕ) → Rises (ids_in lists) → k < length (ids_in lists)
    → list_of lists (get_or (ids_in lists) k 0) ≡ (get_or lists k (0, [])).1
list_at_place [] k rise lt = absurd (omega arith)
list_at_place (e ∷ es) zero rise lt =
    ap (λ (b : Bool). cond b e.1 (list_of es e.0)) (eq-eqb e.0 e.0 refl)
list_at_place (e ∷ es) (suc k) rise lt =
    let i = get_or (ids_in es) k 0 in
    let less : e.0 < i = rises_first e.0 (ids_in es) k rise (omega arith) in
    let other : i ≢ e.0 = λ (h : i ≡ e.0). omega arith in
    ap (λ (b : Bool). cond b e.1 (list_of es i)) (apart_test i e.0 other)
    ∙ list_at_place es k (rises_tail e.0 (ids_in es) rise) (omega arith)

-- the ids of lists that were filtered by id
pub ids_filter : (p : ℕ → Bool) (lists : List (ℕ × List ℕ))
    → ids_in (filter (λ e. p e.0) lists) ≡ filter p (ids_in lists)
ids_filter p [] = refl
ids_filter p (e ∷ es) =
    elim (p e.0) as (λ v. ids_in (cond v (e ∷ filter (λ e. p e.0) es) (filter (λ e. p e.0) es))
    ≡ cond v (e.0 ∷ filter p (ids_in es)) (filter p (ids_in es))) [
      | true ↦ ap (λ (t : List ℕ). e.0 ∷ t) (ids_filter p es)
      | false ↦ ids_filter p es
    ]

-- a cut changes no id
pub ids_cut : (lists : List (ℕ × List ℕ)) (d o : ℕ) → ids_in (cut_lists lists d o) ≡ ids_in lists
ids_cut [] d o = refl
ids_cut (e ∷ es) d o = ap (λ (t : List ℕ). e.0 ∷ t) (ids_cut es d o)

-- nor does a link more
pub ids_added : (lists : List (ℕ × List ℕ)) (d o : ℕ) → ids_in (add_lists lists d o) ≡ ids_in lists
ids_added [] d o = refl
ids_added (e ∷ es) d o = ap (λ (t : List ℕ). e.0 ∷ t) (ids_added es d o)

-- what is left of a filtered list
pub has_filter : (p : ℕ → Bool) (xs : List ℕ) (i : ℕ) → has (filter p xs) i ≡ (has xs i && p i)
has_filter p [] i = refl
has_filter p (x ∷ xs) i = elim (cases_Bool (p x)) [
  | inl is ↦
      ap (λ (b : Bool). has (cond b (x ∷ filter p xs) (filter p xs)) i) is
      ∙ ap (λ (b : Bool). (i == x) || b) (has_filter p xs i) ∙ taken is
  | inr off ↦
      ap (λ (b : Bool). has (cond b (x ∷ filter p xs) (filter p xs)) i) off
      ∙ has_filter p xs i ∙ left off
]
  where
    taken : p x ≡ true → ((i == x) || (has xs i && p i)) ≡ (((i == x) || has xs i) && p i)
    taken is = elim (cases_Bool (i == x)) [
      | inl at ↦
          let on : p i ≡ true = ap p (eqb-true i x at) ∙ is in
          ap (λ (b : Bool). b || (has xs i && p i)) at
          ∙ sym (ap (λ (b : Bool). ((i == x) || has xs i) && b) on ∙ ap (λ (b : Bool). (b || has xs i) && true) at)
      | inr other ↦
          ap (λ (b : Bool). b || (has xs i && p i)) other ∙ sym (ap (λ (b : Bool). (b || has xs i) && p i) other)
    ]

    left : p x ≡ false → (has xs i && p i) ≡ (((i == x) || has xs i) && p i)
    left off = elim (cases_Bool (i == x)) [
      | inl at ↦
          let on : p i ≡ false = ap p (eqb-true i x at) ∙ off in
          ap (λ (b : Bool). has xs i && b) on ∙ none (has xs i)
          ∙ sym (ap (λ (b : Bool). ((i == x) || has xs i) && b) on ∙ none ((i == x) || has xs i))
      | inr other ↦ sym (ap (λ (b : Bool). (b || has xs i) && p i) other)
    ]
      where
        none : (b : Bool) → (b && false) ≡ false
        none true = refl
        none false = refl

-- lists and what they link
pub links_of_list : (lists : List (ℕ × List ℕ)) (a b : ℕ) → has (list_of lists a) b ≡ true → links lists a b ≡ true
links_of_list [] a b h = absurd (both_ways false refl h)
links_of_list (e ∷ es) a b h = elim (cases_Bool (a == e.0)) [
  | inl is ↦
      let here : has e.1 b ≡ true = sym (ap (λ (v : Bool). has (cond v e.1 (list_of es a)) b) is) ∙ h in
      (λ i. (is i && here i) || links es a b)
  | inr off ↦
      let there : has (list_of es a) b ≡ true = sym (ap (λ (v : Bool). has (cond v e.1 (list_of es a)) b) off) ∙ h in
      (λ i. (off i && has e.1 b) || links_of_list es a b there i)
]

-- who lists has a list
pub links_has : (lists : List (ℕ × List ℕ)) (a b : ℕ) → links lists a b ≡ true → has (ids_in lists) a ≡ true
links_has [] a b h = h
links_has (e ∷ es) a b h = elim (cases_Bool (a == e.0)) [
  | inl is ↦ ap (λ (v : Bool). v || has (ids_in es) a) is
  | inr off ↦ ap (λ (v : Bool). v || has (ids_in es) a) off
      ∙ links_has es a b (sym (ap (λ (v : Bool). (v && has e.1 b) || links es a b) off) ∙ h)
]

-- what is left links as it did
pub links_filter : (p : ℕ → Bool) (lists : List (ℕ × List ℕ)) (a b : ℕ)
    → links (filter (λ e. p e.0) lists) a b ≡ true → links lists a b ≡ true
links_filter p [] a b h = h
links_filter p (e ∷ es) a b h =
    elim (p e.0) as (λ v. links (cond v (e ∷ filter (λ e. p e.0) es) (filter (λ e. p e.0) es)) a b ≡ true
    → links (e ∷ es) a b ≡ true) [
      | true ↦ λ f. wider ((a == e.0) && has e.1 b) (links (filter (λ e. p e.0) es) a b) (links es a b) (links_filter p es a b) f
      | false ↦ λ f. right ((a == e.0) && has e.1 b) (links es a b) (links_filter p es a b f)
    ] h
  where
    wider : (x y z : Bool) → (y ≡ true → z ≡ true) → (x || y) ≡ true → (x || z) ≡ true
    wider true y z w f = refl
    wider false y z w f = w f

    right : (x z : Bool) → z ≡ true → (x || z) ≡ true
    right true z f = refl
    right false z f = f

-- the list of an id that is left
pub list_of_filter : (p : ℕ → Bool) (lists : List (ℕ × List ℕ)) (i : ℕ) → p i ≡ true
    → list_of (filter (λ e. p e.0) lists) i ≡ list_of lists i
list_of_filter p [] i h = refl
list_of_filter p (e ∷ es) i h = elim (cases_Bool (i == e.0)) [
  | inl is ↦
      let on : p e.0 ≡ true = ap p (sym (eqb-true i e.0 is)) ∙ h in
      ap (λ (v : Bool). list_of (cond v (e ∷ filter (λ e. p e.0) es) (filter (λ e. p e.0) es)) i) on
      ∙ ap (λ (v : Bool). cond v e.1 (list_of (filter (λ e. p e.0) es) i)) is
      ∙ sym (ap (λ (v : Bool). cond v e.1 (list_of es i)) is)
  | inr off ↦
      elim (p e.0) as (λ v. list_of (cond v (e ∷ filter (λ e. p e.0) es) (filter (λ e. p e.0) es)) i
      ≡ list_of (filter (λ e. p e.0) es) i) [
        | true ↦ ap (λ (v : Bool). cond v e.1 (list_of (filter (λ e. p e.0) es) i)) off
        | false ↦ refl
      ]
      ∙ list_of_filter p es i h ∙ sym (ap (λ (v : Bool). cond v e.1 (list_of es i)) off)
]

-- the list of an id after a cut
pub list_of_cut : (lists : List (ℕ × List ℕ)) (d o i : ℕ)
    → list_of (cut_lists lists d o) i ≡ cond (d == i) (without o (list_of lists i)) (list_of lists i)
list_of_cut [] d o i = none (d == i)
  where
    none : (b : Bool) → ◌≡◌ {A = List ℕ} [] (cond b [] [])
    none true = refl
    none false = refl
list_of_cut (e ∷ es) d o i = elim (cases_Bool (i == e.0)) [
  | inl is ↦
      ap (λ (v : Bool). cond v (cond (d == e.0) (without o e.1) e.1) (list_of (cut_lists es d o) i)) is
      ∙ ap (λ (k : ℕ). cond (d == k) (without o e.1) e.1) (sym (eqb-true i e.0 is))
      ∙ sym (ap (λ (v : Bool). cond (d == i) (without o (cond v e.1 (list_of es i))) (cond v e.1 (list_of es i))) is)
  | inr off ↦
      ap (λ (v : Bool). cond v (cond (d == e.0) (without o e.1) e.1) (list_of (cut_lists es d o) i)) off
      ∙ list_of_cut es d o i
      ∙ sym (ap (λ (v : Bool). cond (d == i) (without o (cond v e.1 (list_of es i))) (cond v e.1 (list_of es i))) off)
]

-- who lists something has it in its list
pub list_of_links : (lists : List (ℕ × List ℕ)) (a b : ℕ)
    → ((i j : ℕ) → i < j → j < length (ids_in lists) → get_or (ids_in lists) i 0 < get_or (ids_in lists) j 0)
    → links lists a b ≡ true → has (list_of lists a) b ≡ true
list_of_links [] a b rise h = absurd (both_ways false refl h)
list_of_links (e ∷ es) a b rise h = elim (cases_Bool (a == e.0)) [
  | inl is ↦ ap (λ (v : Bool). has (cond v e.1 (list_of es a)) b) is ∙ elim (cases_Bool (has e.1 b)) [
    | inl here ↦ here
    | inr off ↦
        let later : links es a b ≡ true = sym (λ i. (is i && off i) || links es a b) ∙ h in
        absurd (both_ways (has (ids_in es) a)
        (ap (has (ids_in es)) (eqb-true a e.0 is) ∙ above_absent e.0 (ids_in es) rise) (links_has es a b later))
  ]
  | inr off ↦ ap (λ (v : Bool). has (cond v e.1 (list_of es a)) b) off
      ∙ list_of_links es a b (rises_tail e.0 (ids_in es) rise)
      (sym (ap (λ (v : Bool). (v && has e.1 b) || links es a b) off) ∙ h)
]

-- a new id links nothing
pub links_last : (lists : List (ℕ × List ℕ)) (k a b : ℕ) → links (lists ++ (k, []) ∷ []) a b ≡ true → links lists a b ≡ true
links_last [] k a b h = elim (cases_Bool (a == k)) [
  | inl is ↦ absurd (both_ways ((a == k && false) || false) (ap (λ (v : Bool). (v && false) || false) is) h)
  | inr off ↦ absurd (both_ways ((a == k && false) || false) (ap (λ (v : Bool). (v && false) || false) off) h)
]
links_last (e ∷ es) k a b h =
    wider (a == e.0 && has e.1 b) (links (es ++ (k, []) ∷ []) a b) (links es a b) (links_last es k a b) h
  where
    wider : (x y z : Bool) → (y ≡ true → z ≡ true) → (x || y) ≡ true → (x || z) ≡ true
    wider true y z w f = refl
    wider false y z w f = w f

-- and the old ids stay
pub has_first : (lists : List (ℕ × List ℕ)) (k i : ℕ) → has (ids_in lists) i ≡ true
    → has (ids_in (lists ++ (k, []) ∷ [])) i ≡ true
has_first [] k i h = absurd (both_ways false refl h)
has_first (e ∷ es) k i h =
    wider (i == e.0) (has (ids_in es) i) (has (ids_in (es ++ (k, []) ∷ [])) i) (has_first es k i) h
  where
    wider : (x y z : Bool) → (y ≡ true → z ≡ true) → (x || y) ≡ true → (x || z) ≡ true
    wider true y z w f = refl
    wider false y z w f = w f

-- what stands in a list with one more at its end
pub has_last : (xs : List ℕ) (o b : ℕ) → has (xs ++ o ∷ []) b ≡ true → (has xs b ≡ true) ⊎ (b ≡ o)
has_last [] o b h = elim (cases_Bool (b == o)) [
  | inl is ↦ inr (eqb-true b o is)
  | inr off ↦ absurd (both_ways ((b == o) || false) (ap (λ (v : Bool). v || false) off) h)
]
has_last (x ∷ xs) o b h = elim (cases_Bool (b == x)) [
  | inl is ↦ inl (ap (λ (v : Bool). v || has xs b) is)
  | inr off ↦ elim (has_last xs o b (sym (ap (λ (v : Bool). v || has (xs ++ o ∷ []) b) off) ∙ h)) [
    | inl there ↦ inl (λ i. off i || there i)
    | inr e ↦ inr e
  ]
]

-- what links after one link more
pub links_added : (lists : List (ℕ × List ℕ)) (d o a b : ℕ) → links (add_lists lists d o) a b ≡ true
    → (links lists a b ≡ true) ⊎ ((a ≡ d) × (b ≡ o))
links_added [] d o a b h = absurd (both_ways false refl h)
links_added (e ∷ es) d o a b h = elim (cases_Bool (a == e.0 && has (cond (d == e.0) (e.1 ++ o ∷ []) e.1) b)) [
  | inl here ↦
      let parts = and_parts (a == e.0) (has (cond (d == e.0) (e.1 ++ o ∷ []) e.1) b) here in
      elim (cases_Bool (d == e.0)) [
        | inl is ↦ elim (has_last e.1 o b (sym (ap (λ (v : Bool). has (cond v (e.1 ++ o ∷ []) e.1) b) is) ∙ parts.1)) [
          | inl there ↦ inl (λ i. (parts.0 i && there i) || links es a b)
          | inr new ↦ inr (eqb-true a e.0 parts.0 ∙ sym (eqb-true d e.0 is), new)
        ]
        | inr off ↦
            let there : has e.1 b ≡ true = sym (ap (λ (v : Bool). has (cond v (e.1 ++ o ∷ []) e.1) b) off) ∙ parts.1 in
            inl (λ i. (parts.0 i && there i) || links es a b)
      ]
  | inr off ↦ elim (links_added es d o a b (sym (ap (λ (v : Bool). v || links (add_lists es d o) a b) off) ∙ h)) [
    | inl old ↦ inl (right (a == e.0 && has e.1 b) (links es a b) old)
    | inr new ↦ inr new
  ]
]
  where
    right : (x z : Bool) → z ≡ true → (x || z) ≡ true
    right true z f = refl
    right false z f = f
