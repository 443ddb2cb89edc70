-- The pages of all segments fit into as many frames as the root has pages.
use Rattle.std.proofs.Common.{◌≡◌, ◌≢◌, ℕ, suc, ◌*◌, ◌/◌, ◌<◌, ◌≤◌, Bool, true, false, cond, ◌||◌, ◌==◌, List, [], ◌∷◌, length, get_or, set, Option, refl, sym, ◌∙◌, ap, subst, arith, sum_by, inl, inr, length-set}
use Rattle.std.proofs.lemmas.Bool.{cases_Bool, cases_eq, eqb-true}
use Rattle.std.proofs.lemmas.List.{get_or-set_same, get_or-set_other}
use Rattle.std.proofs.lemmas.List.Sums.{sum_by-cons, sum_by-set}
use Rattle.base.specs.Live.{has}
use Rattle.containers.specs.Objects.{Apart}
use Rattle.containers.specs.Tree.{ids_in}
use Rattle.containers.proofs.Views.{at_has}
use Rattle.label_intern.specs.declared.held.Held.{Held}
use Rattle.kernel_rules.specs.State.{own_cost}
use Rattle.kernel_rules.specs.declared.objects.Object.{Object}
use Rattle.kernel_laws.proofs.Bounds.{root_bounds}
use Rattle.arena_state.specs.declared.records.Kept as kept
use Rattle.arena_state.specs.declared.records.Kept.TheVariants as keeps
use Rattle.arena_state.specs.declared.holdings.Holdings.{Holdings}
use Rattle.arena_state.specs.declared.pieces.Pieces.{Pieces}
use Rattle.arena_state.specs.Rows.{rows_of}
use Rattle.arena_state.specs.Assembled.{pieces_state, objects_in, object_in, record_in, body_of}
use Rattle.arena_state.specs.Stocked.{kept_pages, pages_at, IsStocked}
use Rattle.arena_memory.specs.Segments.{bytes_in, pages_of, pages_in, all_pages}
use Rattle.arena_state.specs.Sound.{IsSound}
use Rattle.arena_state.proofs.RecordLaws.{segment_cost, sum_same_in}
use Rattle.arena_state.proofs.RoomLaws.{root_at}

-- what a record's object costs covers its pages
cost_row : (labels : List (Option Held)) (k : kept.Kept) (l : List ℕ) → kept_pages k ≤ own_cost (body_of labels k l)
cost_row labels (keeps.Container avoid used) l = omega arith
cost_row labels (keeps.Segment pages) l = let cost = segment_cost pages in omega arith
cost_row labels keeps.AddressSpace l = omega arith
cost_row labels (keeps.Thread t) l = omega arith
cost_row labels (keeps.Gate g) l = omega arith
cost_row labels keeps.Device l = omega arith

costs_rows : (h : Holdings) (lists : List (ℕ × List ℕ)) (slots : List ℕ) → length (ids_in lists) ≡ length slots
    → sum_by (λ y. kept_pages (record_in h.records.items y).body) slots
    ≤ sum_by (λ (e : ℕ × Object). own_cost e.1.body) (objects_in h (rows_of lists slots))
costs_rows h [] [] long = omega arith
costs_rows h [] (s ∷ slots) long = absurd (omega arith)
costs_rows h (e ∷ es) [] long = absurd (omega arith)
costs_rows h (e ∷ es) (s ∷ slots) long =
    let here = cost_row h.labels (record_in h.records.items s).body e.1 in
    let rest = costs_rows h es slots (omega arith) in
    let left = sum_by-cons (λ (y : ℕ). kept_pages (record_in h.records.items y).body) s slots in
    let right = sum_by-cons (λ (f : ℕ × Object). own_cost f.1.body)
    (e.0, object_in h (record { slot = s; list = e.1 })) (objects_in h (rows_of es slots)) in
    omega (arith, here, rest, left, right)

-- the pages that records name
pub pages_fit : (p : Pieces) (s : IsSound p)
    → sum_by (λ y. kept_pages (record_in p.holdings.records.items y).body) p.places.slots ≤ p.limits.pages
pages_fit p s =
    let r = root_at p s in
    let most = root_bounds (pieces_state p) r.root s.formed r.found in
    omega (arith, costs_rows p.holdings p.places.lists p.places.slots s.tree.beside, most.0, r.quota)

zeros : (xs : List (List ℕ)) → ((y : ℕ) → y < length xs → pages_of (get_or xs y []) ≡ 0) → sum_by pages_of xs ≡ 0
zeros [] none = refl
zeros (x ∷ xs) none =
    let here : pages_of x ≡ 0 = none 0 (omega arith) in
    let rest = zeros xs (λ y lt. none (suc y) (omega arith)) in
    omega (arith, sum_by-cons pages_of x xs, here, rest)

-- a sum over all slots is one over those that have something
counted : (xs : List (List ℕ)) (slots : List ℕ) → Apart slots → ((k : ℕ) → k < length slots → get_or slots k 0 < length xs)
    → ((y : ℕ) → y < length xs → has slots y ≡ false → pages_of (get_or xs y []) ≡ 0)
    → sum_by pages_of xs ≡ sum_by (λ y. pages_of (get_or xs y [])) slots
counted xs [] apart within none = zeros xs (λ y lt. none y lt refl)
counted xs (s ∷ slots) apart within none =
    let s_in : s < length xs = within 0 (omega arith) in
    let long : length (set xs s []) ≡ length xs = length-set xs s [] in
    let one = sum_by-set pages_of xs s [] [] s_in in
    let rest = counted (set xs s []) slots (λ j k lt k_in. apart (suc j) (suc k) (omega arith) (omega arith))
    (λ k lt. let in' = within (suc k) (omega arith) in omega (arith, in', long))
    (λ y lt off. elim (cases_eq y s) [
      | inl same ↦ ap pages_of (ap (get_or (set xs s []) y) refl ∙ (subst (λ (j : ℕ). get_or (set xs s []) j [] ≡ []) (sym same) (get_or-set_same xs s [] [] s_in)))
      | inr other ↦ ap pages_of (get_or-set_other xs s y [] [] other)
          ∙ none y (omega (arith, lt, long)) (ap (λ (v : Bool). v || has slots y) (apart_test y s other) ∙ off)
    ]) in
    let same : sum_by (λ y. pages_of (get_or (set xs s []) y [])) slots ≡ sum_by (λ y. pages_of (get_or xs y [])) slots
    = sum_same_in (λ y. pages_of (get_or (set xs s []) y [])) (λ y. pages_of (get_or xs y [])) slots
    (λ y there. ap pages_of (get_or-set_other xs s y [] [] (λ (e : y ≡ s). absent y there e))) in
    let empty : pages_of [] ≡ 0 = refl in
    omega (arith, one, rest, same, empty, sum_by-cons (λ (y : ℕ). pages_of (get_or xs y [])) s slots)
  where
    apart_test : (y s : ℕ) → y ≢ s → (y == s) ≡ false
    apart_test y s off = elim (cases_Bool (y == s)) [
      | inl is ↦ absurd (off (eqb-true y s is))
      | inr other ↦ other
    ]

    absent : (y : ℕ) → has slots y ≡ true → y ≡ s → ⊥
    absent y there same =
        let at = at_has slots y there in
        apart 0 (suc at.0) (omega arith) (omega (arith, at.1)) (sym same ∙ sym at.2)

module _ (p : Pieces) (s : IsSound p) (k : IsStocked p) where
  pub pages_is : (y : ℕ) → pages_in p.holdings.segments y ≡ pages_at p y
  pages_is y = whole (length (bytes_in p.holdings.segments y)) (pages_at p y) (k.paged y)
    where
      whole : (n m : ℕ) → n ≡ 256 * m → n / 256 ≡ m
      whole n m e = omega arith

  -- all pages are those that the records of live slots name
  pub pages_total : all_pages p.holdings.segments
      ≡ sum_by (λ y. kept_pages (record_in p.holdings.records.items y).body) p.places.slots
  pages_total =
      counted p.holdings.segments p.places.slots s.tree.apart
      (λ j lt. let in' = s.tree.within j lt in omega (arith, in', s.cells, k.segments))
      (λ y lt off. pages_is y
      ∙ ap {B = ℕ} (λ (v : Bool). cond v (kept_pages (record_in p.holdings.records.items y).body) 0) off)
      ∙ sum_same_in (λ y. pages_in p.holdings.segments y) (λ y. kept_pages (record_in p.holdings.records.items y).body) p.places.slots
      (λ y there. pages_is y
      ∙ ap {B = ℕ} (λ (v : Bool). cond v (kept_pages (record_in p.holdings.records.items y).body) 0) there)
