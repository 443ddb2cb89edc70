-- Objects seen as a list over what each id lists.
use Rattle.std.proofs.Common.{◌≡◌, ℕ, suc, ◌+◌, ◌<◌, Bool, true, false, cond, ◌||◌, ◌==◌, List, [], ◌∷◌, ◌++◌, length, get_or, refl, sym, ◌∙◌, ap, arith, sum_by, inl, inr}
use Rattle.std.specs.Prelude.{map}
use Rattle.std.specs.List.{filter}
use Rattle.std.specs.Ordering.{nat_cmp}
use Rattle.std.specs.Map.{set_value}
use Rattle.std.specs.BTreeMap.{is_at}
use Rattle.std.proofs.lemmas.Bool.{cases_Bool, both_ways, eqb-true}
use Rattle.std.proofs.lemmas.List.Sums.{sum_by-cons}
use Rattle.base.specs.Live.{has}
use Rattle.kernel_rules.specs.State.{lists_of, listed}
use Rattle.kernel_rules.specs.declared.objects.Object.{Object}
use Rattle.containers.specs.Objects.{Rises}
use Rattle.containers.specs.Tree.{ids_in, list_of, cut_lists, add_lists, without}
use Rattle.containers.proofs.Lists.{no_room, or_no_left, rises_tail, above_absent}
use Rattle.arena_state.specs.Rows.{Row, rows_of}
use Rattle.kernel_rules.proofs.LookupLaws.{at_is}
use Rattle.arena_state.proofs.RowLaws.{row_place, seen}

-- what is seen of each id and its list
abbrev pub by_id : {X : Type 0} → (ℕ → List ℕ → X) → List (ℕ × List ℕ) → List (ℕ × X)
by_id f lists = map (λ e. (e.0, f e.0 e.1)) lists

pub rows_by_id : {X : Type 0} (h : Row → X) (f : ℕ → List ℕ → X) (lists : List (ℕ × List ℕ)) (slots : List ℕ)
    → length (ids_in lists) ≡ length slots
    → ((k : ℕ) → k < length (ids_in lists)
    → h (row_place lists slots k) ≡ f (get_or (ids_in lists) k 0) (get_or lists k (0, [])).1)
    → seen h (rows_of lists slots) ≡ by_id f lists
rows_by_id h f [] slots long same = refl
rows_by_id h f (e ∷ es) [] long same = absurd (no_room (length (ids_in es)) long)
rows_by_id h f (e ∷ es) (s ∷ slots) long same =
    (λ i. (e.0, same 0 (omega arith) i)
    ∷ rows_by_id h f es slots (omega arith) (λ k lt. same (suc k) (omega arith)) i)

pub sum_places : (f g : ℕ → ℕ) (ids slots : List ℕ) → length ids ≡ length slots
    → ((k : ℕ) → k < length ids → f (get_or ids k 0) ≡ g (get_or slots k 0)) → sum_by f ids ≡ sum_by g slots
sum_places f g [] [] long same = refl
sum_places f g [] (s ∷ slots) long same = absurd (no_room (length slots) (sym long))
sum_places f g (x ∷ ids) [] long same = absurd (no_room (length ids) long)
sum_places f g (x ∷ ids) (s ∷ slots) long same =
    let here : f x ≡ g s = same 0 (omega arith) in
    let rest : sum_by f ids ≡ sum_by g slots
    = sum_places f g ids slots (omega arith) (λ k lt. same (suc k) (omega arith)) in
    let a : sum_by f (x ∷ ids) ≡ f x + sum_by f ids = sum_by-cons f x ids in
    let b : sum_by g (s ∷ slots) ≡ g s + sum_by g slots = sum_by-cons g s slots in
    omega arith

-- what is filtered by id
pub by_id_filter : {X : Type 0} (f : ℕ → List ℕ → X) (p : ℕ → Bool) (lists : List (ℕ × List ℕ))
    → by_id f (filter (λ e. p e.0) lists) ≡ filter (λ e. p e.0) (by_id f lists)
by_id_filter f p [] = refl
by_id_filter {X} f p (e ∷ es) =
    elim (p e.0) as (λ v. by_id f (cond v (e ∷ filter (λ e. p e.0) es) (filter (λ e. p e.0) es))
    ≡ cond v ((e.0, f e.0 e.1) ∷ filter (λ e. p e.0) (by_id f es)) (filter (λ e. p e.0) (by_id f es))) [
      | true ↦ ap (λ (t : List (ℕ × X)). (e.0, f e.0 e.1) ∷ t) (by_id_filter f p es)
      | false ↦ by_id_filter f p es
    ]

-- d has no list to be cut
cut_none : (lists : List (ℕ × List ℕ)) (d o : ℕ) → has (ids_in lists) d ≡ false → cut_lists lists d o ≡ lists
cut_none [] d o h = refl
cut_none (e ∷ es) d o h =
    let off : (d == e.0) ≡ false = or_no_left (d == e.0) (has (ids_in es) d) h in
    (λ i. (e.0, cond (off i) (without o e.1) e.1)
    ∷ cut_none es d o (sym (ap (λ (b : Bool). b || has (ids_in es) d) off) ∙ h) i)

-- the list of d cut is one value set
pub cut_is_set : {X : Type 0} (f : ℕ → List ℕ → X) (lists : List (ℕ × List ℕ)) (d o : ℕ) → Rises (ids_in lists)
    → has (ids_in lists) d ≡ true
    → by_id f (cut_lists lists d o)
    ≡ set_value (is_at (nat_cmp d)) (by_id f lists) (f d (without o (list_of lists d)))
cut_is_set f [] d o rise h = absurd (both_ways false refl h)
cut_is_set {X} f (e ∷ es) d o rise h = elim (cases_Bool (d == e.0)) [
  | inl is ↦
      let same : d ≡ e.0 = eqb-true d e.0 is in
      let absent : has (ids_in es) d ≡ false = ap (has (ids_in es)) same ∙ above_absent e.0 (ids_in es) rise in
      (λ i. (e.0, f e.0 (cond (is i) (without o e.1) e.1)) ∷ by_id f (cut_none es d o absent i))
      ∙ ap {B = List (ℕ × X)} (λ (x : ℕ). (e.0, f x (without o e.1)) ∷ by_id f es) (sym same)
      ∙ ap {B = List (ℕ × X)} (λ (b : Bool). (e.0, f d (without o (cond b e.1 (list_of es d)))) ∷ by_id f es) (sym is)
      ∙ ap {B = List (ℕ × X)} (λ (b : Bool). cond b ((e.0, f d (without o (list_of (e ∷ es) d))) ∷ by_id f es)
      ((e.0, f e.0 e.1) ∷ set_value (is_at (nat_cmp d)) (by_id f es) (f d (without o (list_of (e ∷ es) d)))))
      (sym (at_is d e.0 ∙ is))
  | inr off ↦
      (λ i. (e.0, f e.0 (cond (off i) (without o e.1) e.1))
      ∷ cut_is_set f es d o (rises_tail e.0 (ids_in es) rise) (sym (ap (λ (b : Bool). b || has (ids_in es) d) off) ∙ h) i)
      ∙ ap {B = List (ℕ × X)} (λ (b : Bool). (e.0, f e.0 e.1) ∷ set_value (is_at (nat_cmp d)) (by_id f es)
      (f d (without o (cond b e.1 (list_of es d))))) (sym off)
      ∙ ap {B = List (ℕ × X)} (λ (b : Bool). cond b ((e.0, f d (without o (list_of (e ∷ es) d))) ∷ by_id f es)
      ((e.0, f e.0 e.1) ∷ set_value (is_at (nat_cmp d)) (by_id f es) (f d (without o (list_of (e ∷ es) d)))))
      (sym (at_is d e.0 ∙ off))
]

pub add_none : (lists : List (ℕ × List ℕ)) (d o : ℕ) → has (ids_in lists) d ≡ false → add_lists lists d o ≡ lists
add_none [] d o h = refl
add_none (e ∷ es) d o h =
    let off : (d == e.0) ≡ false = or_no_left (d == e.0) (has (ids_in es) d) h in
    (λ i. (e.0, cond (off i) (e.1 ++ o ∷ []) e.1)
    ∷ add_none es d o (sym (ap (λ (b : Bool). b || has (ids_in es) d) off) ∙ h) i)

-- the list of d added to is one value set
pub add_is_set : {X : Type 0} (f : ℕ → List ℕ → X) (lists : List (ℕ × List ℕ)) (d o : ℕ) → Rises (ids_in lists)
    → has (ids_in lists) d ≡ true
    → by_id f (add_lists lists d o)
    ≡ set_value (is_at (nat_cmp d)) (by_id f lists) (f d (list_of lists d ++ o ∷ []))
add_is_set f [] d o rise h = absurd (both_ways false refl h)
add_is_set {X} f (e ∷ es) d o rise h = elim (cases_Bool (d == e.0)) [
  | inl is ↦
      let same : d ≡ e.0 = eqb-true d e.0 is in
      let absent : has (ids_in es) d ≡ false = ap (has (ids_in es)) same ∙ above_absent e.0 (ids_in es) rise in
      (λ i. (e.0, f e.0 (cond (is i) (e.1 ++ o ∷ []) e.1)) ∷ by_id f (add_none es d o absent i))
      ∙ ap {B = List (ℕ × X)} (λ (x : ℕ). (e.0, f x (e.1 ++ o ∷ [])) ∷ by_id f es) (sym same)
      ∙ ap {B = List (ℕ × X)} (λ (b : Bool). (e.0, f d (cond b e.1 (list_of es d) ++ o ∷ [])) ∷ by_id f es) (sym is)
      ∙ ap {B = List (ℕ × X)} (λ (b : Bool). cond b ((e.0, f d (list_of (e ∷ es) d ++ o ∷ [])) ∷ by_id f es)
      ((e.0, f e.0 e.1) ∷ set_value (is_at (nat_cmp d)) (by_id f es) (f d (list_of (e ∷ es) d ++ o ∷ []))))
      (sym (at_is d e.0 ∙ is))
  | inr off ↦
      (λ i. (e.0, f e.0 (cond (off i) (e.1 ++ o ∷ []) e.1))
      ∷ add_is_set f es d o (rises_tail e.0 (ids_in es) rise) (sym (ap (λ (b : Bool). b || has (ids_in es) d) off) ∙ h) i)
      ∙ ap {B = List (ℕ × X)} (λ (b : Bool). (e.0, f e.0 e.1) ∷ set_value (is_at (nat_cmp d)) (by_id f es)
      (f d (cond b e.1 (list_of es d) ++ o ∷ []))) (sym off)
      ∙ ap {B = List (ℕ × X)} (λ (b : Bool). cond b ((e.0, f d (list_of (e ∷ es) d ++ o ∷ [])) ∷ by_id f es)
      ((e.0, f e.0 e.1) ∷ set_value (is_at (nat_cmp d)) (by_id f es) (f d (list_of (e ∷ es) d ++ o ∷ []))))
      (sym (at_is d e.0 ∙ off))
]

abbrev head_list : List (ℕ × List ℕ) → List ℕ
head_list [] = []
head_list (x ∷ xs) = x.1

abbrev tail : List (ℕ × List ℕ) → List (ℕ × List ℕ)
tail [] = []
tail (x ∷ xs) = xs

-- what is listed once d's list is cut
pub lists_of_by_id : (f : ℕ → List ℕ → Object) (lists : List (ℕ × List ℕ)) (d o : ℕ)
    → ((i : ℕ) (l m : List ℕ) → listed (f i l).body ≡ l → (l ≡ [] → m ≡ []) → listed (f i m).body ≡ m)
    → lists_of (by_id f lists) ≡ lists → lists_of (by_id f (cut_lists lists d o)) ≡ cut_lists lists d o
lists_of_by_id f [] d o too same = refl
lists_of_by_id f (e ∷ es) d o too same =
    let first : listed (f e.0 e.1).body ≡ e.1 = ap (λ (t : List (ℕ × List ℕ)). head_list t) same in
    let rest : lists_of (by_id f es) ≡ es = ap tail same in
    (λ i. (e.0, too e.0 e.1 (cond (d == e.0) (without o e.1) e.1) first (emptied (d == e.0) e.1) i)
    ∷ lists_of_by_id f es d o too rest i)
  where
    emptied : (b : Bool) (l : List ℕ) → l ≡ [] → cond b (without o l) l ≡ []
    emptied true l h = ap (without o) h
    emptied false l h = h

-- and once it is added to
pub lists_grow : (shape : ℕ → List ℕ → Object) (d o : ℕ) (es : List (ℕ × List ℕ)) → ((m : List ℕ) → listed (shape d m).body ≡ m)
    → lists_of (by_id shape es) ≡ es → lists_of (by_id shape (add_lists es d o)) ≡ add_lists es d o
lists_grow shape d o [] at same = refl
lists_grow shape d o (e ∷ es) at same =
    let first : listed (shape e.0 e.1).body ≡ e.1 = ap (λ (t : List (ℕ × List ℕ)). head_list t) same in
    let rest : lists_of (by_id shape es) ≡ es = ap tail same in
    let here : listed (shape e.0 (cond (d == e.0) (e.1 ++ o ∷ []) e.1)).body
    ≡ cond (d == e.0) (e.1 ++ o ∷ []) e.1
    = elim (cases_Bool (d == e.0)) [
      | inl is ↦
          ap (λ (v : Bool). listed (shape e.0 (cond v (e.1 ++ o ∷ []) e.1)).body) is
          ∙ ap (λ (k : ℕ). listed (shape k (e.1 ++ o ∷ [])).body) (sym (eqb-true d e.0 is))
          ∙ at (e.1 ++ o ∷ [])
          ∙ sym (ap (λ (v : Bool). cond v (e.1 ++ o ∷ []) e.1) is)
      | inr off ↦
          ap (λ (v : Bool). listed (shape e.0 (cond v (e.1 ++ o ∷ []) e.1)).body) off
          ∙ first ∙ sym (ap (λ (v : Bool). cond v (e.1 ++ o ∷ []) e.1) off)
    ] in
    (λ i. (e.0, here i) ∷ lists_grow shape d o es at rest i)
