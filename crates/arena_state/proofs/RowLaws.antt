-- Rows of a directory, looked up and changed.
use Rattle.std.proofs.Common.{◌≡◌, ◌≢◌, ℕ, zero, suc, ◌<◌, Bool, false, cond, ◌==◌, List, [], ◌∷◌, ◌++◌, length, get_or, Some, None, refl, sym, ◌∙◌, ap, arith, inl, inr}
use Rattle.std.specs.Prelude.{map}
use Rattle.std.specs.Ordering.{nat_cmp}
use Rattle.std.specs.Map.{lookup, set_value}
use Rattle.std.specs.BTreeMap.{is_at}
use Rattle.std.proofs.lemmas.Bool.{cases_Bool, eq-eqb}
use Rattle.std.proofs.lemmas.Option.{none-some}
use Rattle.base.specs.Live.{has}
use Rattle.containers.specs.Objects.{Rises}
use Rattle.containers.specs.Tree.{ids_in}
use Rattle.containers.proofs.Lists.{no_room, apart_test, or_no_left, or_no_right, rises_tail, rises_first}
use Rattle.kernel_rules.proofs.LookupLaws.{at_self, at_is}
use Rattle.arena_state.specs.Rows.{Row, rows_of}

-- the row at a place
abbrev pub row_place : List (ℕ × List ℕ) → List ℕ → ℕ → Row
row_place lists slots k = record { slot = get_or slots k 0; list = (get_or lists k (0, [])).1 }

-- the row at a place is found by its id
pub row_at : (lists : List (ℕ × List ℕ)) (slots : List ℕ) (k : ℕ) → length (ids_in lists) ≡ length slots
    → Rises (ids_in lists) → k < length (ids_in lists)
    → lookup (is_at (nat_cmp (get_or (ids_in lists) k 0))) (rows_of lists slots)
    ≡ Some (row_place lists slots k)
row_at [] slots k long rise lt = absurd (omega arith)
row_at (e ∷ es) [] k long rise lt = absurd (no_room (length (ids_in es)) long)
row_at (e ∷ es) (s ∷ slots) zero long rise lt =
    ap (λ (b : Bool). cond b (Some (row_place (e ∷ es) (s ∷ slots) 0)) (lookup (is_at (nat_cmp e.0)) (rows_of es slots)))
    (at_self e.0)
row_at (e ∷ es) (s ∷ slots) (suc k) long rise lt =
    let i = get_or (ids_in es) k 0 in
    let less : e.0 < i = rises_first e.0 (ids_in es) k rise (omega arith) in
    let other : i ≢ e.0 = λ (h : i ≡ e.0). omega arith in
    ap (λ (b : Bool). cond b (Some (row_place (e ∷ es) (s ∷ slots) 0)) (lookup (is_at (nat_cmp i)) (rows_of es slots)))
    (at_is i e.0 ∙ apart_test i e.0 other)
    ∙ row_at es slots k (omega arith) (rises_tail e.0 (ids_in es) rise) (omega arith)

-- an id that has no list has no row
pub row_none : (lists : List (ℕ × List ℕ)) (slots : List ℕ) (id : ℕ) → has (ids_in lists) id ≡ false
    → lookup (is_at (nat_cmp id)) (rows_of lists slots) ≡ None
row_none [] slots id h = refl
row_none (e ∷ es) [] id h = refl
row_none (e ∷ es) (s ∷ slots) id h =
    ap (λ (b : Bool). cond b (Some (row_place (e ∷ es) (s ∷ slots) 0)) (lookup (is_at (nat_cmp id)) (rows_of es slots)))
    (at_is id e.0 ∙ or_no_left (id == e.0) (has (ids_in es) id) h)
    ∙ row_none es slots id (or_no_right (id == e.0) (has (ids_in es) id) h)

-- the rows with what is seen of each
abbrev pub seen : {X : Type 0} → (Row → X) → List (ℕ × Row) → List (ℕ × X)
seen f rows = map (λ e. (e.0, f e.1)) rows

module _ {X : Type 0} (g h : Row → X) where
  -- rows that are seen the same everywhere
  pub all_same : (lists : List (ℕ × List ℕ)) (slots : List ℕ)
      → ((k : ℕ) → k < length (ids_in lists) → k < length slots → h (row_place lists slots k) ≡ g (row_place lists slots k))
      → seen h (rows_of lists slots) ≡ seen g (rows_of lists slots)
  all_same [] slots same = refl
  all_same (e ∷ es) [] same = refl
  all_same (e ∷ es) (s ∷ slots) same =
      (λ i. (e.0, same 0 (omega arith) (omega arith) i)
      ∷ all_same es slots (λ k lt in'. same (suc k) (omega arith) (omega arith)) i)

  -- rows that are seen the same everywhere but at one place
  pub all_but_one : (lists : List (ℕ × List ℕ)) (slots : List ℕ) (k : ℕ) (y : X)
      → length (ids_in lists) ≡ length slots
      → Rises (ids_in lists) → k < length (ids_in lists) → h (row_place lists slots k) ≡ y
      → ((j : ℕ) → j < length (ids_in lists) → j ≢ k → h (row_place lists slots j) ≡ g (row_place lists slots j))
      → seen h (rows_of lists slots)
      ≡ set_value (is_at (nat_cmp (get_or (ids_in lists) k 0))) (seen g (rows_of lists slots)) y
  all_but_one [] slots k y long rise lt here same = absurd (omega arith)
  all_but_one (e ∷ es) [] k y long rise lt here same = absurd (no_room (length (ids_in es)) long)
  all_but_one (e ∷ es) (s ∷ slots) zero y long rise lt here same =
      (λ i. (e.0, here i) ∷ all_same es slots (λ k less within. same (suc k) (omega arith) (λ (h' : suc k ≡ 0). no_room k h')) i)
      ∙ ap (λ (b : Bool). cond b ((e.0, y) ∷ seen g (rows_of es slots))
      ((e.0, g (row_place (e ∷ es) (s ∷ slots) 0)) ∷ set_value (is_at (nat_cmp e.0)) (seen g (rows_of es slots)) y))
      (sym (at_self e.0))
  all_but_one (e ∷ es) (s ∷ slots) (suc k) y long rise lt here same =
      let i = get_or (ids_in es) k 0 in
      let less : e.0 < i = rises_first e.0 (ids_in es) k rise (omega arith) in
      let other : i ≢ e.0 = λ (h' : i ≡ e.0). omega arith in
      (λ j. (e.0, same 0 (omega arith) (λ (h' : 0 ≡ suc k). no_room k (sym h')) j)
      ∷ all_but_one es slots k y (omega arith) (rises_tail e.0 (ids_in es) rise) (omega arith) here
      (λ m in' off. same (suc m) (omega arith) (λ (h' : suc m ≡ suc k). off (omega arith))) j)
      ∙ ap (λ (b : Bool). cond b ((e.0, y) ∷ seen g (rows_of es slots))
      ((e.0, g (row_place (e ∷ es) (s ∷ slots) 0)) ∷ set_value (is_at (nat_cmp i)) (seen g (rows_of es slots)) y))
      (sym (at_is i e.0 ∙ apart_test i e.0 other))

pub rows_last : (lists : List (ℕ × List ℕ)) (slots : List ℕ) (i k : ℕ) (l : List ℕ) → length (ids_in lists) ≡ length slots
    → rows_of (lists ++ (i, l) ∷ []) (slots ++ k ∷ []) ≡ rows_of lists slots ++ (i, record { slot = k; list = l }) ∷ []
rows_last [] [] i k l long = refl
rows_last [] (x ∷ slots) i k l long = absurd (no_room (length slots) (sym long))
rows_last (e ∷ es) [] i k l long = absurd (no_room (length (ids_in es)) long)
rows_last (e ∷ es) (x ∷ slots) i k l long =
    ap (λ (t : List (ℕ × Row)). (e.0, record { slot = x; list = e.1 }) ∷ t) (rows_last es slots i k l (omega arith))

pub seen_last : {X : Type 0} (h : Row → X) (rows : List (ℕ × Row)) (i : ℕ) (r : Row)
    → seen h (rows ++ (i, r) ∷ []) ≡ seen h rows ++ (i, h r) ∷ []
seen_last h [] i r = refl
seen_last {X} h (e ∷ es) i r = ap (λ (t : List (ℕ × X)). (e.0, h e.1) ∷ t) (seen_last h es i r)

pub found_last : (rows : List (ℕ × Row)) (k : ℕ) (r : Row) → lookup (is_at (nat_cmp k)) rows ≡ None
    → lookup (is_at (nat_cmp k)) (rows ++ (k, r) ∷ []) ≡ Some r
found_last [] k r none = ap (λ (v : Bool). cond v (Some r) None) (at_is k k ∙ eq-eqb k k refl)
found_last (e ∷ es) k r none = elim (cases_Bool (k == e.0)) [
  | inl is ↦ absurd (none-some e.1
      (sym none ∙ ap (λ (v : Bool). cond v (Some e.1) (lookup (is_at (nat_cmp k)) es)) (at_is k e.0 ∙ is)))
  | inr off ↦
      ap (λ (v : Bool). cond v (Some e.1) (lookup (is_at (nat_cmp k)) (es ++ (k, r) ∷ []))) (at_is k e.0 ∙ off)
      ∙ found_last es k r (sym (ap (λ (v : Bool). cond v (Some e.1) (lookup (is_at (nat_cmp k)) es)) (at_is k e.0 ∙ off)) ∙ none)
]

pub other_last : (rows : List (ℕ × Row)) (i k : ℕ) (r : Row) → (i == k) ≡ false
    → lookup (is_at (nat_cmp i)) (rows ++ (k, r) ∷ []) ≡ lookup (is_at (nat_cmp i)) rows
other_last [] i k r off = ap (λ (v : Bool). cond v (Some r) None) (at_is i k ∙ off)
other_last (e ∷ es) i k r off = ap (cond (is_at (nat_cmp i) e.0) (Some e.1)) (other_last es i k r off)

pub rows_length : (lists : List (ℕ × List ℕ)) (slots : List ℕ) → length (ids_in lists) ≡ length slots
    → length (rows_of lists slots) ≡ length (ids_in lists)
rows_length [] slots h = refl
rows_length (e ∷ es) [] h = absurd (no_room (length (ids_in es)) h)
  where
    no_room : (n : ℕ) → suc n ≡ 0 → ⊥
    no_room n h = omega arith
rows_length (e ∷ es) (k ∷ slots) h = ap suc (rows_length es slots (omega arith))
