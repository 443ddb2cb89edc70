-- Who is left lists what it listed, in the same order.
use Rattle.std.proofs.Common.{◌≡◌, ◌≢◌, ℕ, zero, suc, ◌+◌, ◌<◌, inl, inr, Bool, true, cond, not, ◌==◌, List, [], ◌∷◌, map, length, get_or, refl, sym, ap, ◌∙◌, subst, arith, lit<}
use Rattle.std.specs.Prelude.{remove}
use Rattle.std.proofs.lemmas.Bool.{cases_Bool, eqb-true, eq-eqb, both_ways}
use Rattle.std.proofs.lemmas.List.{get_or-map, length-map}
use Rattle.containers.specs.Lists.{Lists, family_at, cells_at, list_at, StandsAt}
use Rattle.containers.specs.Cells.{Stands, IsDropped, IsRecorded}
use Rattle.base.specs.Live.{has}
use Rattle.containers.specs.Sweep.{IsCut}
use Rattle.containers.specs.Directory.{IsDirectory}
use Rattle.containers.specs.Tree.{without, cut_lists, ids_in, list_of}
use Rattle.containers.specs.View.{head_in, ids_of, lists_of, IsKept}
use Rattle.containers.proofs.Moves.{one_head, zero_one}
use Rattle.containers.proofs.Directories.{one_place, listing_of}
use Rattle.containers.proofs.Views.{at_has, ids_are, object_is, slot_one}
use Rattle.containers.proofs.Links.{map_same}

without_none : (y : ℕ) (ys : List ℕ) → ((j : ℕ) → j < length ys → get_or ys j 0 ≢ y) → without y ys ≡ ys
without_none y [] h = refl
without_none y (x ∷ xs) h = elim (cases_Bool (y == x)) [
  | inl same ↦ absurd (h 0 (omega arith) (sym (eqb-true y x same)))
  | inr other ↦ ap (λ (v : Bool). cond (not v) (x ∷ without y xs) (without y xs)) other ∙ ap (λ (zs : List ℕ). x ∷ zs) (without_none y xs (λ j lt. h (suc j) (omega arith)))
]

-- one place taken out
remove_map : (f : ℕ → ℕ) (y : ℕ) (xs : List ℕ) (k : ℕ) → k < length xs → f (get_or xs k 0) ≡ y → ((j : ℕ) → j < length xs → f (get_or xs j 0) ≡ y → j ≡ k) → map f (remove xs k) ≡ without y (map f xs)
remove_map f y [] k lt e one = absurd (omega arith)
remove_map f y (x ∷ xs) zero lt e one =
    let none : (j : ℕ) → j < length (map f xs) → get_or (map f xs) j 0 ≢ y = λ j l h.
    let within : j < length xs = omega (arith, length-map xs f) in
    let bad : suc j ≡ 0 = one (suc j) (omega arith) (sym (get_or-map f xs j 0 0 within) ∙ h) in
    absurd (omega arith) in
    sym (ap (λ (v : Bool). cond (not v) (f x ∷ without y (map f xs)) (without y (map f xs))) (eq-eqb y (f x) (sym e)) ∙ without_none y (map f xs) none)
remove_map f y (x ∷ xs) (suc k) lt e one = elim (cases_Bool (y == f x)) [
  | inl same ↦ let bad : 0 ≡ suc k = one 0 (omega arith) (sym (eqb-true y (f x) same)) in absurd (omega arith)
  | inr other ↦
      ap (λ (zs : List ℕ). f x ∷ zs) (remove_map f y xs k (omega arith) e (λ j l h. let s : suc j ≡ suc k = one (suc j) (omega arith) h in omega arith))
      ∙ sym (ap (λ (v : Bool). cond (not v) (f x ∷ without y (map f xs)) (without y (map f xs))) other)
]

list_of_cut : (lists : List (ℕ × List ℕ)) (d o i : ℕ) → list_of (cut_lists lists d o) i ≡ cond (d == i) (without o (list_of lists i)) (list_of lists i)
list_of_cut [] d o i = elim (cases_Bool (d == i)) [
  | inl e ↦ sym (ap (λ (v : Bool). let xs : List ℕ = cond v [] [] in xs) e)
  | inr e ↦ sym (ap (λ (v : Bool). let xs : List ℕ = cond v [] [] in xs) e)
]
list_of_cut (e ∷ es) d o i = elim (cases_Bool (i == e.0)) [
  | inl here ↦
      ap (λ (v : Bool). cond v (cond (d == e.0) (without o e.1) e.1) (list_of (cut_lists es d o) i)) here
      ∙ ap (λ (j : ℕ). cond (d == j) (without o e.1) e.1) (sym (eqb-true i e.0 here))
      ∙ sym (ap (λ (v : Bool). cond (d == i) (without o (cond v e.1 (list_of es i))) (cond v e.1 (list_of es i))) here)
  | inr there ↦
      ap (λ (v : Bool). cond v (cond (d == e.0) (without o e.1) e.1) (list_of (cut_lists es d o) i)) there
      ∙ list_of_cut es d o i
      ∙ sym (ap (λ (v : Bool). cond (d == i) (without o (cond v e.1 (list_of es i))) (cond v e.1 (list_of es i))) there)
]

list_at_place : (r : List Lists) (names ids slots : List ℕ) (k : ℕ) → k < length ids → k < length slots → ((j : ℕ) → j < length ids → get_or ids j 0 ≡ get_or ids k 0 → j ≡ k) → list_of (lists_of r names ids slots) (get_or ids k 0) ≡ ids_of r names (get_or slots k 0)
list_at_place r names [] slots k li ls one = absurd (omega arith)
list_at_place r names (i ∷ ids) [] k li ls one = absurd (omega arith)
list_at_place r names (i ∷ ids) (s ∷ slots) zero li ls one = ap (λ (v : Bool). cond v (ids_of r names s) (list_of (lists_of r names ids slots) i)) (eq-eqb i i refl)
list_at_place r names (i ∷ ids) (s ∷ slots) (suc k) li ls one = elim (cases_Bool (get_or ids k 0 == i)) [
  | inl same ↦ let bad : 0 ≡ suc k = one 0 (omega arith) (sym (eqb-true (get_or ids k 0) i same)) in absurd (omega arith)
  | inr other ↦
      ap (λ (v : Bool). cond v (ids_of r names s) (list_of (lists_of r names ids slots) (get_or ids k 0))) other
      ∙ list_at_place r names ids slots k (omega arith) (omega arith) (λ j l h. let e : suc j ≡ suc k = one (suc j) (omega arith) h in omega arith)
]

pub list_at_slot : (size root : ℕ) (r : List Lists) (names ids slots : List ℕ) → IsDirectory size root r names ids slots → (s : ℕ) → IsRecorded size root r s → list_of (lists_of r names ids slots) (get_or names s 0) ≡ ids_of r names s
list_at_slot size root r names ids slots dir s rec =
    let p = dir.place s rec in
    let is : get_or ids p.0 0 ≡ get_or names s 0 = sym (dir.name p.0 p.1) ∙ ap (λ (i : ℕ). get_or names i 0) p.2 in
    ap (λ (i : ℕ). list_of (lists_of r names ids slots) i) (sym is)
    ∙ list_at_place r names ids slots p.0 p.1 (omega (arith, p.1, dir.beside)) (λ j l h. one_place ids dir.rises j p.0 l p.1 h)
    ∙ ap (λ (i : ℕ). ids_of r names i) p.2

-- the cells of a slot, after a link of d went
cells_other : (size : ℕ) (old between : List Lists) (d o cell : ℕ) → IsDropped size old between o cell → (s : ℕ) → s < size → (Stands old 0 s cell → ⊥) → cells_at between 0 s ≡ cells_at old 0 s
cells_other size old between d o cell (inl l) s lt not = l.first.same s (λ (e : s ≡ size + 1). omega arith) not
cells_other size old between d o cell (inr l) s lt not = ap (λ (x : Lists). list_at x s) (l.freed.second.beside 0 zero_one) ∙ l.freed.first.same s (λ (e : s ≡ size). omega arith) not

cells_less : (size : ℕ) (old between : List Lists) (d o cell : ℕ) → IsDropped size old between o cell → d < size → (st : Stands old 0 d cell) → cells_at between 0 d ≡ remove (cells_at old 0 d) st.place
cells_less size old between d o cell (inl l) lt st = l.first.removed d st.place (λ (e : d ≡ size + 1). omega arith) st.stands
cells_less size old between d o cell (inr l) lt st = ap (λ (x : Lists). list_at x d) (l.freed.second.beside 0 zero_one) ∙ l.freed.first.removed d st.place (λ (e : d ≡ size). omega arith) st.stands

module _ (size root : ℕ) (old new : List Lists) (d o : ℕ) (went : List (ℕ × ℕ)) (dead : List ℕ) (cut : IsCut size root old new d o went dead) (names ids slots ids' slots' : List ℕ) (kept : IsKept size root old names ids slots) (dir' : IsDirectory size root new names ids' slots') where
  same_names : (s : ℕ) → IsRecorded size root new s → ids_of new names s ≡ map (λ (c : ℕ). get_or names (head_in (family_at old 1).lists c) 0) (cells_at new 0 s)
  same_names s rec = map_same (λ (c : ℕ). get_or names (head_in (family_at new 1).lists c) 0) (λ (c : ℕ). get_or names (head_in (family_at old 1).lists c) 0) (cells_at new 0 s) (λ k within.
      let c = get_or (cells_at new 0 s) k 0 in
      let held : Stands new 0 s c = record { place = k; stands = record { within = within; is = refl } } in
      let of = cut.swept.sweeping.sound.paired.object_of s c (λ (e : s ≡ size). omega (arith, rec.within)) held in
      let before = cut.were s of.0 c (record { holder = rec.within; object = of.1; held = cut.swept.sweeping.was_held s c rec.within held; names = cut.swept.sweeping.was_named of.0 c of.1 of.2 }) in
      ap (λ (i : ℕ). get_or names i 0) (object_is size root new names ids' slots' cut.swept.sweeping.sound (listing_of dir') of.0 c of.2 ∙ sym (object_is size root old names ids slots kept.sound (listing_of kept.directory) of.0 c before.names)))

  before_new : (s : ℕ) → IsRecorded size root new s → IsRecorded size root old s
  before_new s rec = cut.recorded_before s (record { within = rec.within; reached = elim rec.reached [ inl e ↦ inl e | inr b ↦ inr (b.0, cut.swept.sweeping.was_named s b.0 rec.within b.1) ] })

  ids_cut : map (λ (c : ℕ). get_or names (head_in (family_at old 1).lists c) 0) (remove (cells_at old 0 d) cut.link.held.place) ≡ without (get_or names o 0) (ids_of old names d)
  ids_cut = remove_map (λ (c : ℕ). get_or names (head_in (family_at old 1).lists c) 0) (get_or names o 0) (cells_at old 0 d) cut.link.held.place cut.link.held.stands.within
      (ap (λ (c : ℕ). get_or names (head_in (family_at old 1).lists c) 0) cut.link.held.stands.is ∙ ap (λ (i : ℕ). get_or names i 0) (object_is size root old names ids slots kept.sound (listing_of kept.directory) o cut.cell cut.link.names))
      (λ j lt h.
      let c = get_or (cells_at old 0 d) j 0 in
      let held : Stands old 0 d c = record { place = j; stands = record { within = lt; is = refl } } in
      let of = kept.sound.paired.object_of d c (λ (e : d ≡ size). omega (arith, cut.link.holder)) held in
      let name_is : get_or names of.0 0 ≡ get_or names o 0 = sym (ap (λ (i : ℕ). get_or names i 0) (object_is size root old names ids slots kept.sound (listing_of kept.directory) of.0 c of.2)) ∙ h in
      let same : of.0 ≡ o = slot_one size root old names ids slots kept.sound (listing_of kept.directory) of.0 o (record { within = of.1; reached = inr (c, of.2) }) (record { within = cut.link.object; reached = inr (cut.cell, cut.link.names) }) name_is in
      let cells : c ≡ cut.cell = kept.simple d o c cut.cell (record { holder = cut.link.holder; object = cut.link.object; held = held; names = subst (λ (i : ℕ). Stands old 1 i c) same of.2 }) cut.link in
      (kept.sound.paired.well 0 (lit< tt)).one_place d j cut.link.held.place cut.cell (subst (λ (x : ℕ). StandsAt (cells_at old 0 d) j x) cells held.stands) cut.link.held.stands)

  ids_then : (s : ℕ) → IsRecorded size root new s → ids_of new names s ≡ cond (get_or names d 0 == get_or names s 0) (without (get_or names o 0) (ids_of old names s)) (ids_of old names s)
  ids_then s rec =
      let start = same_names s rec ∙ ap (λ (xs : List ℕ). map (λ (c : ℕ). get_or names (head_in (family_at old 1).lists c) 0) xs) (cut.swept.sweeping.unchanged s rec (cut.swept.none_dying s)) in
      let rd = kept.sound.holders d cut.cell cut.link.holder cut.link.held in
      elim (cases_Bool (get_or names d 0 == get_or names s 0)) [
        | inl here ↦
            let at : s ≡ d = slot_one size root old names ids slots kept.sound (listing_of kept.directory) s d (before_new s rec) rd (sym (eqb-true (get_or names d 0) (get_or names s 0) here)) in
            start ∙ ap (λ (i : ℕ). map (λ (c : ℕ). get_or names (head_in (family_at old 1).lists c) 0) (cells_at cut.between 0 i)) at
            ∙ ap (λ (xs : List ℕ). map (λ (c : ℕ). get_or names (head_in (family_at old 1).lists c) 0) xs) (cells_less size old cut.between d o cut.cell cut.dropped cut.link.holder cut.link.held) ∙ ids_cut
            ∙ ap (λ (i : ℕ). without (get_or names o 0) (ids_of old names i)) (sym at)
            ∙ sym (ap (λ (v : Bool). cond v (without (get_or names o 0) (ids_of old names s)) (ids_of old names s)) here)
        | inr there ↦
            let ne : s ≢ d = λ (e : s ≡ d). both_ways (get_or names d 0 == get_or names s 0) there (eq-eqb (get_or names d 0) (get_or names s 0) (ap (λ (i : ℕ). get_or names i 0) (sym e))) in
            start ∙ ap (λ (xs : List ℕ). map (λ (c : ℕ). get_or names (head_in (family_at old 1).lists c) 0) xs) (cells_other size old cut.between d o cut.cell cut.dropped s rec.within (λ st. ne (one_head old 0 s d cut.cell (kept.sound.paired.well 0 (lit< tt)) st cut.link.held)))
            ∙ sym (ap (λ (v : Bool). cond v (without (get_or names o 0) (ids_of old names s)) (ids_of old names s)) there)
      ]

  -- in the order of the old list
  pub list_then : (s : ℕ) → IsRecorded size root new s → list_of (lists_of new names ids' slots') (get_or names s 0) ≡ list_of (cut_lists (lists_of old names ids slots) (get_or names d 0) (get_or names o 0)) (get_or names s 0)
  list_then s rec =
      list_at_slot size root new names ids' slots' dir' s rec ∙ ids_then s rec
      ∙ ap (λ (xs : List ℕ). cond (get_or names d 0 == get_or names s 0) (without (get_or names o 0) xs) xs) (sym (list_at_slot size root old names ids slots kept.directory s (before_new s rec)))
      ∙ sym (list_of_cut (lists_of old names ids slots) (get_or names d 0) (get_or names o 0) (get_or names s 0))

  pub order : (i : ℕ) → has (ids_in (lists_of new names ids' slots')) i ≡ true → list_of (lists_of new names ids' slots') i ≡ list_of (cut_lists (lists_of old names ids slots) (get_or names d 0) (get_or names o 0)) i
  order i h =
      let at = at_has ids' i (subst (λ (xs : List ℕ). has xs i ≡ true) (ids_are new names ids' slots' dir'.beside) h) in
      let is : get_or names (get_or slots' at.0 0) 0 ≡ i = dir'.name at.0 at.1 ∙ at.2 in
      subst (λ (x : ℕ). list_of (lists_of new names ids' slots') x ≡ list_of (cut_lists (lists_of old names ids slots) (get_or names d 0) (get_or names o 0)) x) is (list_then (get_or slots' at.0 0) (dir'.recorded at.0 at.1))
