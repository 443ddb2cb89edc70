-- One cell moved from a list of a family to the end of another.
use Rattle.std.proofs.Common.{◌≡◌, ◌≢◌, ℕ, ◌+◌, ◌-◌, ◌<◌, inl, inr, List, [], ◌∷◌, ◌++◌, length, get_or, set, refl, sym, ap, ◌∙◌, subst, arith, length-append, length-set, get_or-set_other}
use Rattle.std.specs.Prelude.{remove, sum_by}
use Rattle.std.proofs.lemmas.Bool.{cases_lt, cases_eq}
use Rattle.std.proofs.lemmas.List.{get_or_append_left, get_or_push}
use Rattle.std.proofs.lemmas.List.Edits.{length-remove, get_or-remove_below, get_or-remove_above}
use Rattle.std.proofs.lemmas.List.Sums.{sum_by-set}
use Rattle.containers.specs.Lists.{Lists, empty_lists, family_at, cells_at, with_list, with_cells, StandsAt, IsWellFormed}
use Rattle.containers.proofs.Lookups.{family_at-with_cells, cells_at-with_cells, cells_at-with_cells_other, heads_kept, cells_kept, families_kept}
use Rattle.containers.specs.Cells.{Stands, IsShifted}

pub stands_push : (ys : List ℕ) (c k x : ℕ) → StandsAt ys k x → StandsAt (ys ++ c ∷ []) k x
stands_push ys c k x s = record {
  within = omega (arith, s.within, length-append ys (c ∷ []));
  is = get_or_append_left ys (c ∷ []) 0 k s.within ∙ s.is;
}

pub stands_pushed : (ys : List ℕ) (c : ℕ) → StandsAt (ys ++ c ∷ []) (length ys) c
stands_pushed ys c = record {
  within = omega (arith, length-append ys (c ∷ []));
  is = get_or_push ys c 0 (length ys) refl;
}

pub stands_unpush : (ys : List ℕ) (c k x : ℕ) → x ≢ c → StandsAt (ys ++ c ∷ []) k x → StandsAt ys k x
stands_unpush ys c k x ne s = elim (cases_lt k (length ys)) [
  | inl lt ↦ record { within = lt; is = sym (get_or_append_left ys (c ∷ []) 0 k lt) ∙ s.is }
  | inr le ↦
      let here : length ys ≡ k = omega (arith, s.within, length-append ys (c ∷ [])) in
      absurd (ne (sym s.is ∙ get_or_push ys c 0 k here))
]

pub stands_remove : (xs : List ℕ) (p c k x : ℕ) → StandsAt xs p c → x ≢ c → StandsAt xs k x → (j : ℕ) × StandsAt (remove xs p) j x
stands_remove xs p c k x at ne s = elim (cases_lt k p) [
  | inl lt ↦ (k, record { within = omega (arith, s.within, at.within, length-remove xs p at.within); is = get_or-remove_below xs p 0 k lt at.within ∙ s.is })
  | inr le ↦ elim (cases_eq k p) [
    | inl same ↦ absurd (ne (sym s.is ∙ ap (λ (i : ℕ). get_or xs i 0) same ∙ at.is))
    | inr apart ↦
        let back : (k - 1) + 1 ≡ k = omega arith in
        (k - 1, record { within = omega (arith, s.within, length-remove xs p at.within); is = get_or-remove_above xs p 0 (k - 1) (omega arith) at.within ∙ ap (λ (i : ℕ). get_or xs i 0) back ∙ s.is })
  ]
]

pub stands_unremove : (xs : List ℕ) (p c k x : ℕ) → StandsAt xs p c → StandsAt (remove xs p) k x → (j : ℕ) × StandsAt xs j x
stands_unremove xs p c k x at s = elim (cases_lt k p) [
  | inl lt ↦ (k, record { within = omega (arith, at.within); is = sym (get_or-remove_below xs p 0 k lt at.within) ∙ s.is })
  | inr le ↦ (k + 1, record { within = omega (arith, s.within, length-remove xs p at.within); is = sym (get_or-remove_above xs p 0 k le at.within) ∙ s.is })
]

-- the same list under another name
pub stands_as : (xs ys : List ℕ) (k x : ℕ) → xs ≡ ys → StandsAt xs k x → StandsAt ys k x
stands_as xs ys k x e s = subst (λ (l : List ℕ). StandsAt l k x) e s

module _ (r r1 r2 : List Lists) (f from to p cell : ℕ) (in_families : f < length r) (in_heads : from < length (family_at r f).lists) (to_heads : to < length (family_at r f).lists) (apart : from ≢ to) (at : StandsAt (cells_at r f from) p cell) (well : IsWellFormed (family_at r f)) (well2 : IsWellFormed (family_at r2 f)) (one : r1 ≡ with_cells r f from (remove (cells_at r f from) p)) (two : r2 ≡ with_cells r1 f to (cells_at r1 f to ++ cell ∷ [])) where
  families1 : length r1 ≡ length r
  families1 = ap length one ∙ families_kept r f in_families from (remove (cells_at r f from) p)

  f1 : f < length r1
  f1 = omega (arith, families1)

  heads1 : length (family_at r1 f).lists ≡ length (family_at r f).lists
  heads1 = ap (λ (x : List Lists). length (family_at x f).lists) one ∙ heads_kept r f in_families from (remove (cells_at r f from) p)

  to_old : cells_at r1 f to ≡ cells_at r f to
  to_old = ap (λ (x : List Lists). cells_at x f to) one ∙ cells_at-with_cells_other r f in_families from to (remove (cells_at r f from) p) (λ e. apart (sym e))

  to_is : cells_at r2 f to ≡ cells_at r f to ++ cell ∷ []
  to_is = ap (λ (x : List Lists). cells_at x f to) two ∙ cells_at-with_cells r1 f f1 to (cells_at r1 f to ++ cell ∷ []) (omega (arith, heads1)) ∙ ap (λ (ys : List ℕ). ys ++ cell ∷ []) to_old

  not_to : (h : ℕ) → h ≢ to → cells_at r2 f h ≡ cells_at r1 f h
  not_to h ne = ap (λ (x : List Lists). cells_at x f h) two ∙ cells_at-with_cells_other r1 f f1 to h (cells_at r1 f to ++ cell ∷ []) ne

  from_is : cells_at r2 f from ≡ remove (cells_at r f from) p
  from_is = not_to from apart ∙ ap (λ (x : List Lists). cells_at x f from) one ∙ cells_at-with_cells r f in_families from (remove (cells_at r f from) p) in_heads

  other_is : (h : ℕ) → h ≢ to → h ≢ from → cells_at r2 f h ≡ cells_at r f h
  other_is h ne nf = not_to h ne ∙ ap (λ (x : List Lists). cells_at x f h) one ∙ cells_at-with_cells_other r f in_families from h (remove (cells_at r f from) p) nf

  kept' : (h x : ℕ) → x ≢ cell → Stands r f h x → Stands r2 f h x
  kept' h x ne s = elim (cases_eq h to) [
    | inl e ↦ record { place = s.place; stands = stands_as _ _ s.place x (sym (ap (λ (i : ℕ). cells_at r2 f i) e ∙ to_is)) (stands_push (cells_at r f to) cell s.place x (stands_as _ _ s.place x (ap (λ (i : ℕ). cells_at r f i) e) s.stands)) }
    | inr nt ↦ elim (cases_eq h from) [
      | inl e ↦
          let found = stands_remove (cells_at r f from) p cell s.place x at ne (stands_as _ _ s.place x (ap (λ (i : ℕ). cells_at r f i) e) s.stands) in
          record { place = found.0; stands = stands_as _ _ found.0 x (sym (ap (λ (i : ℕ). cells_at r2 f i) e ∙ from_is)) found.1 }
      | inr nf ↦ record { place = s.place; stands = stands_as _ _ s.place x (sym (other_is h nt nf)) s.stands }
    ]
  ]

  was' : (h x : ℕ) → x ≢ cell → Stands r2 f h x → Stands r f h x
  was' h x ne s = elim (cases_eq h to) [
    | inl e ↦ record { place = s.place; stands = stands_as _ _ s.place x (sym (ap (λ (i : ℕ). cells_at r f i) e)) (stands_unpush (cells_at r f to) cell s.place x ne (stands_as _ _ s.place x (ap (λ (i : ℕ). cells_at r2 f i) e ∙ to_is) s.stands)) }
    | inr nt ↦ elim (cases_eq h from) [
      | inl e ↦
          let found = stands_unremove (cells_at r f from) p cell s.place x at (stands_as _ _ s.place x (ap (λ (i : ℕ). cells_at r2 f i) e ∙ from_is) s.stands) in
          record { place = found.0; stands = stands_as _ _ found.0 x (sym (ap (λ (i : ℕ). cells_at r f i) e)) found.1 }
      | inr nf ↦ record { place = s.place; stands = stands_as _ _ s.place x (other_is h nt nf) s.stands }
    ]
  ]

  lists2 : (family_at r2 f).lists ≡ set (set (family_at r f).lists from (remove (cells_at r f from) p)) to (cells_at r1 f to ++ cell ∷ [])
  lists2 =
      ap (λ (x : List Lists). (family_at x f).lists) two
      ∙ ap (λ (l : Lists). l.lists) (family_at-with_cells r1 f f1 to (cells_at r1 f to ++ cell ∷ []))
      ∙ ap (λ (x : List Lists). set (family_at x f).lists to (cells_at r1 f to ++ cell ∷ [])) one
      ∙ ap (λ (l : Lists). set l.lists to (cells_at r1 f to ++ cell ∷ [])) (family_at-with_cells r f in_families from (remove (cells_at r f from) p))

  total' : sum_by length (family_at r2 f).lists ≡ sum_by length (family_at r f).lists
  total' =
      let ls = (family_at r f).lists in
      let a = remove (cells_at r f from) p in
      let b = cells_at r1 f to ++ cell ∷ [] in
      let first = sum_by-set length ls from a [] in_heads in
      let second = sum_by-set length (set ls from a) to b [] (omega (arith, length-set ls from a)) in
      let at_to : length (get_or (set ls from a) to []) ≡ length (get_or ls to []) = ap length (get_or-set_other ls from to a [] (λ e. apart (sym e))) in
      let long : length b ≡ length (get_or ls to []) + 1 = length-append (cells_at r1 f to) (cell ∷ []) ∙ ap (λ (ys : List ℕ). length ys + 1) to_old in
      omega (arith, ap (λ (xs : List (List ℕ)). sum_by length xs) lists2, first, second, at_to, long, length-remove (cells_at r f from) p at.within, at.within)

  pub shifted : IsShifted r r2 f to cell
  shifted = record {
    well = well2;
    beside = λ g ne.
        ap (λ (x : List Lists). family_at x g) two
        ∙ get_or-set_other r1 f g (with_list (family_at r1 f) to (cells_at r1 f to ++ cell ∷ [])) (empty_lists 0 0) ne
        ∙ ap (λ (x : List Lists). family_at x g) one
        ∙ get_or-set_other r f g (with_list (family_at r f) from (remove (cells_at r f from) p)) (empty_lists 0 0) ne;
    arrived = record { place = length (cells_at r f to); stands = stands_as _ _ (length (cells_at r f to)) cell (sym to_is) (stands_pushed (cells_at r f to) cell) };
    kept = kept';
    was = was';
    same = λ h ne not. elim (cases_eq h from) [
      | inl e ↦ absurd (not (record { place = p; stands = stands_as _ _ p cell (sym (ap (λ (i : ℕ). cells_at r f i) e)) at }))
      | inr nf ↦ other_is h ne nf
    ];
    less = λ h ne s.
        let e : h ≡ from = well.one_head h from s.place p cell s.stands at in
        omega (arith, ap (λ (i : ℕ). length (cells_at r2 f i)) e, ap (λ (i : ℕ). length (cells_at r f i)) e, ap length from_is, length-remove (cells_at r f from) p at.within, at.within);
    removed = λ h k ne s.
        let e : h ≡ from = well.one_head h from k p cell s at in
        let same : p ≡ k = well.one_place from p k cell at (subst (λ (i : ℕ). StandsAt (cells_at r f i) k cell) e s) in
        ap (λ (i : ℕ). cells_at r2 f i) e ∙ from_is ∙ ap (λ (i : ℕ). remove (cells_at r f from) i) same ∙ ap (λ (i : ℕ). remove (cells_at r f i) k) (sym e);
    appended = to_is;
    more = ap length to_is ∙ length-append (cells_at r f to) (cell ∷ []);
    cells = ap (λ (x : List Lists). (family_at x f).cells) two ∙ cells_kept r1 f f1 to (cells_at r1 f to ++ cell ∷ []) ∙ ap (λ (x : List Lists). (family_at x f).cells) one ∙ cells_kept r f in_families from (remove (cells_at r f from) p);
    heads = ap (λ (x : List Lists). length (family_at x f).lists) two ∙ heads_kept r1 f f1 to (cells_at r1 f to ++ cell ∷ []) ∙ heads1;
    families = ap length two ∙ families_kept r1 f f1 to (cells_at r1 f to ++ cell ∷ []) ∙ families1;
    total = total';
  }
