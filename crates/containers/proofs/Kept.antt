-- What changes of an arena keep.
use Rattle.std.proofs.Common.{◌≡◌, ◌≢◌, ℕ, ◌+◌, ◌<◌, ◌≤◌, ◌⊎◌, inl, inr, List, [], ◌∷◌, ◌++◌, length, get_or, set, Option, Some, None, refl, sym, ap, ◌∙◌, subst, arith, length-append, length-set, get_or-set_other, get_or-set_same}
use Rattle.std.specs.Prelude.{All, IsSome, remove, replicate}
use Rattle.std.proofs.lemmas.Bool.{cases_lt, cases_eq, false≢true}
use Rattle.std.proofs.lemmas.List.{get_or_append_left, get_or_push, get_or_past, get_or_default, get_or-replicate, length-replicate, map-id}
use Rattle.std.proofs.lemmas.List.Edits.{length-remove, get_or-remove_below, get_or-remove_above}
use Rattle.std.specs.List.{range_with_len}
use Rattle.std.proofs.lemmas.List.FromFn.{map-range_with_len_more, get_or-range_with_len, length-range_with_len}
use Rattle.containers.specs.Objects.{Rises, Apart}
use Rattle.containers.specs.Slots.{IsKept}

pub Rises-push : (xs : List ℕ) (x : ℕ) → Rises xs → All (λ y. y < x) xs → Rises (xs ++ x ∷ [])
Rises-push xs x rises below i j lt within = elim (cases_lt j (length xs)) [
  | inl old ↦ omega (arith, rises i j lt old, get_or_append_left xs (x ∷ []) 0 i (omega arith), get_or_append_left xs (x ∷ []) 0 j old)
  | inr last ↦
      let here : length xs ≡ j = omega (arith, within, length-append xs (x ∷ [])) in
      omega (arith, get_or_push xs x 0 j here, get_or_append_left xs (x ∷ []) 0 i (omega arith), below i 0 (omega arith))
]

pub Apart-push : (xs : List ℕ) (x : ℕ) → Apart xs → All (λ y. y ≢ x) xs → Apart (xs ++ x ∷ [])
Apart-push xs x apart other i j lt within e = elim (cases_lt j (length xs)) [
  | inl old ↦ apart i j lt old (sym (get_or_append_left xs (x ∷ []) 0 i (omega arith)) ∙ e ∙ get_or_append_left xs (x ∷ []) 0 j old)
  | inr last ↦
      let here : length xs ≡ j = omega (arith, within, length-append xs (x ∷ [])) in
      other i 0 (omega arith) (sym (get_or_append_left xs (x ∷ []) 0 i (omega arith)) ∙ e ∙ get_or_push xs x 0 j here)
]

-- where a number of a list with one taken out stood before
pub record WasAt (xs : List ℕ) (place i : ℕ) : Type 0 where
  pub at : ℕ
  pub is : get_or (remove xs place) i 0 ≡ get_or xs at 0
  pub side : ((i < place) × (at ≡ i)) ⊎ ((place ≤ i) × (at ≡ i + 1))

pub was_at : (xs : List ℕ) (place i : ℕ) → place < length xs → WasAt xs place i
was_at xs place i within = elim (cases_lt i place) [
  | inl lt ↦ record { at = i; is = get_or-remove_below xs place 0 i lt within; side = inl (lt, refl) }
  | inr le ↦ record { at = i + 1; is = get_or-remove_above xs place 0 i le within; side = inr (le, refl) }
]

pub Rises-remove : (xs : List ℕ) (place : ℕ) → place < length xs → Rises xs → Rises (remove xs place)
Rises-remove xs place within rises i j lt in_range =
    let a = was_at xs place i within in
    let b = was_at xs place j within in
    let less : a.at < b.at = omega (arith, a.side, b.side) in
    let inside : b.at < length xs = omega (arith, b.side, in_range, length-remove xs place within) in
    omega (arith, a.is, b.is, rises a.at b.at less inside)

pub Apart-remove : (xs : List ℕ) (place : ℕ) → place < length xs → Apart xs → Apart (remove xs place)
Apart-remove xs place within apart i j lt in_range e =
    let a = was_at xs place i within in
    let b = was_at xs place j within in
    let less : a.at < b.at = omega (arith, a.side, b.side) in
    let inside : b.at < length xs = omega (arith, b.side, in_range, length-remove xs place within) in
    apart a.at b.at less inside (sym a.is ∙ e ∙ b.is)

Apart-pop : (xs : List ℕ) (x : ℕ) → Apart (xs ++ x ∷ []) → Apart xs
Apart-pop xs x apart i j lt within e = apart i j lt (omega (arith, length-append xs (x ∷ [])))
    (get_or_append_left xs (x ∷ []) 0 i (omega arith) ∙ e ∙ sym (get_or_append_left xs (x ∷ []) 0 j within))

pub default : (xs : List ℕ) (k d : ℕ) → k < length xs → get_or xs k 0 ≡ get_or xs k d
default xs k d lt = get_or_default xs k 0 d lt

-- two places of a list with no number twice
pub not_both : (xs : List ℕ) (i j : ℕ) → Apart xs → i < length xs → j < length xs → j ≢ i → get_or xs j 0 ≢ get_or xs i 0
not_both xs i j apart in_i in_j differ e = elim (cases_lt i j) [
  | inl lt ↦ apart i j lt in_j (sym e)
  | inr le ↦ apart j i (omega arith) in_i e
]

-- one number more
pub range_push : (n : ℕ) → range_with_len 0 (n + 1) ≡ range_with_len 0 n ++ n ∷ []
range_push n = sym (map-id (range_with_len 0 (n + 1))) ∙ map-range_with_len_more (λ (x : ℕ). x) 0 n n (omega arith) ∙ ap (λ (xs : List ℕ). xs ++ n ∷ []) (map-id (range_with_len 0 n))

-- of rising numbers, each stands at one place
pub one_place : (xs : List ℕ) (i j : ℕ) → Rises xs → i < length xs → j < length xs → get_or xs i 0 ≡ get_or xs j 0 → i ≡ j
one_place xs i j rises in_i in_j e = elim (cases_lt i j) [
  | inl lt ↦ absurd (omega (arith, rises i j lt in_j))
  | inr le ↦ elim (cases_lt j i) [
    | inl lt ↦ absurd (omega (arith, rises j i lt in_i))
    | inr le' ↦ omega arith
  ]
]

module _ {T : Type 0} where
  -- a slot with an object and one with none are two
  pub two_slots : (cells : List (Option T)) (i j : ℕ) → IsSome (get_or cells i None) → get_or cells j None ≡ None → i ≢ j
  two_slots cells i j some none e =
      let P : Option T → Type 0 = λ o. IsSome o in
      let bad : IsSome {T = T} None = subst P (ap (λ (k : ℕ). get_or cells k None) e ∙ none) some in
      absurd (false≢true bad)

  -- a slot with an object is in range
  pub in_range_some : (cells : List (Option T)) (slot : ℕ) → IsSome (get_or cells slot None) → slot < length cells
  in_range_some cells slot some = elim (cases_lt slot (length cells)) [
    | inl lt ↦ lt
    | inr le ↦
        let P : Option T → Type 0 = λ o. IsSome o in
        let bad : IsSome {T = T} None = subst P (get_or_past cells slot None le) some in
        absurd (false≢true bad)
  ]

  some_after : (cells : List (Option T)) (slot k : ℕ) (value : T) → slot < length cells → (k < length cells) × IsSome (get_or cells k None) → (k < length (set cells slot (Some value))) × IsSome (get_or (set cells slot (Some value)) k None)
  some_after cells slot k value lt was = (
    omega (arith, was.0, length-set cells slot (Some value)),
    elim (cases_eq k slot) [
      | inl same ↦ subst (λ (i : ℕ). IsSome (get_or (set cells slot (Some value)) i None)) (sym same) (subst (λ (o : Option T). IsSome o) (sym (get_or-set_same cells slot (Some value) None lt)) refl)
      | inr apart ↦ subst (λ (o : Option T). IsSome o) (sym (get_or-set_other cells slot k (Some value) None apart)) was.1
    ],
  )

  -- a slot that was spare is in range, and has no object
  pub popped_is : (ids slots spare rest : List ℕ) (cells : List (Option T)) (slot : ℕ) → IsKept ids slots spare cells → spare ≡ rest ++ slot ∷ [] → (slot < length cells) × (get_or cells slot None ≡ None)
  popped_is ids slots spare rest cells slot kept popped =
      let was = subst (λ (xs : List ℕ). IsKept ids slots xs cells) popped kept in
      let last = was.unused (length rest) (omega (arith, length-append rest (slot ∷ []))) in
      let here = get_or_push rest slot 0 (length rest) refl in
      (omega (arith, last.0, here), ap (λ (i : ℕ). get_or cells i None) (sym here) ∙ last.1)

  -- a slot without an object is that of no id
  pub slots_apart_from : (ids slots spare : List ℕ) (cells : List (Option T)) (slot : ℕ) → IsKept ids slots spare cells → get_or cells slot None ≡ None → All (λ s. s ≢ slot) slots
  slots_apart_from ids slots spare cells slot kept none k d lt e = two_slots cells (get_or slots k 0) slot (kept.used k lt).1 none (default slots k d lt ∙ e)

  pub kept_insert : (ids slots spare rest : List ℕ) (cells : List (Option T)) (id slot : ℕ) (value : T) → IsKept ids slots spare cells → spare ≡ rest ++ slot ∷ [] → All (λ x. x < id) ids → IsKept (ids ++ id ∷ []) (slots ++ slot ∷ []) rest (set cells slot (Some value))
  kept_insert ids slots spare rest cells id slot value kept popped below =
      let was = subst (λ (xs : List ℕ). IsKept ids slots xs cells) popped kept in
      let last = was.unused (length rest) (omega (arith, length-append rest (slot ∷ []))) in
      let here = get_or_push rest slot 0 (length rest) refl in
      let in_range : slot < length cells = omega (arith, last.0, here) in
      let none : get_or cells slot None ≡ None = ap (λ (i : ℕ). get_or cells i None) (sym here) ∙ last.1 in
      let long = length-set cells slot (Some value) in
      record {
        beside = omega (arith, was.beside, length-append ids (id ∷ []), length-append slots (slot ∷ []));
        total = omega (arith, was.total, long, length-append slots (slot ∷ []), length-append rest (slot ∷ []));
        rising = Rises-push ids id was.rising below;
        used = λ k lt. elim (cases_lt k (length slots)) [
          | inl old ↦ subst (λ (i : ℕ). (i < length (set cells slot (Some value))) × IsSome (get_or (set cells slot (Some value)) i None)) (sym (get_or_append_left slots (slot ∷ []) 0 k old)) (some_after cells slot _ value in_range (was.used k old))
          | inr new ↦ subst (λ (i : ℕ). (i < length (set cells slot (Some value))) × IsSome (get_or (set cells slot (Some value)) i None)) (sym (get_or_push slots slot 0 k (omega (arith, lt, length-append slots (slot ∷ [])))))
              (omega (arith, long), subst (λ (o : Option T). IsSome o) (sym (get_or-set_same cells slot (Some value) None in_range)) refl)
        ];
        unused = λ k lt.
            let before = was.unused k (omega (arith, length-append rest (slot ∷ []))) in
            let at = get_or_append_left rest (slot ∷ []) 0 k lt in
            let apart : get_or rest k 0 ≢ slot = λ (e : get_or rest k 0 ≡ slot). was.spare_apart k (length rest) lt (omega (arith, length-append rest (slot ∷ []))) (at ∙ e ∙ sym here) in
            (omega (arith, before.0, at, long), get_or-set_other cells slot (get_or rest k 0) (Some value) None apart ∙ ap (λ (i : ℕ). get_or cells i None) (sym at) ∙ before.1);
        slots_apart = Apart-push slots slot was.slots_apart (λ k d lt e. two_slots cells (get_or slots k 0) slot (was.used k lt).1 none (default slots k d lt ∙ e));
        spare_apart = Apart-pop rest slot was.spare_apart;
      }

  pub kept_put : (ids slots spare : List ℕ) (cells : List (Option T)) (slot : ℕ) (value : T) → IsKept ids slots spare cells → IsSome (get_or cells slot None) → IsKept ids slots spare (set cells slot (Some value))
  kept_put ids slots spare cells slot value kept some =
      let in_range = in_range_some cells slot some in
      record {
        beside = kept.beside;
        total = omega (arith, kept.total, length-set cells slot (Some value));
        rising = kept.rising;
        used = λ k lt. some_after cells slot _ value in_range (kept.used k lt);
        unused = λ k lt.
            let before = kept.unused k lt in
            (omega (arith, before.0, length-set cells slot (Some value)), get_or-set_other cells slot (get_or spare k 0) (Some value) None (λ (e : get_or spare k 0 ≡ slot). two_slots cells slot (get_or spare k 0) some before.1 (sym e)) ∙ before.1);
        slots_apart = kept.slots_apart;
        spare_apart = kept.spare_apart;
      }

  pub kept_remove : (ids slots spare : List ℕ) (cells : List (Option T)) (place slot : ℕ) → IsKept ids slots spare cells → place < length ids → slot ≡ get_or slots place 0 → IsKept (remove ids place) (remove slots place) (spare ++ slot ∷ []) (set cells slot None)
  kept_remove ids slots spare cells place slot kept within is =
      let inside : place < length slots = omega (arith, kept.beside) in
      let had = kept.used place inside in
      let in_range : slot < length cells = omega (arith, had.0) in
      let some = subst (λ (i : ℕ). IsSome (get_or cells i None)) (sym is) had.1 in
      let long = length-set cells slot None in
      let short = length-remove slots place inside in
      record {
        beside = omega (arith, kept.beside, short, length-remove ids place within);
        total = omega (arith, kept.total, short, long, length-append spare (slot ∷ []));
        rising = Rises-remove ids place within kept.rising;
        used = λ k lt.
            let a = was_at slots place k inside in
            let in_slots : a.at < length slots = omega (arith, a.side, lt, short) in
            let before = kept.used a.at in_slots in
            let apart : get_or slots a.at 0 ≢ slot = λ (e : get_or slots a.at 0 ≡ slot). not_both slots place a.at kept.slots_apart inside in_slots (omega (arith, a.side)) (e ∙ is) in
            subst (λ (i : ℕ). (i < length (set cells slot None)) × IsSome (get_or (set cells slot None) i None)) (sym a.is)
            (omega (arith, before.0, long), subst (λ (o : Option T). IsSome o) (sym (get_or-set_other cells slot (get_or slots a.at 0) None None apart)) before.1);
        unused = λ k lt. elim (cases_lt k (length spare)) [
          | inl old ↦
              let before = kept.unused k old in
              let at = get_or_append_left spare (slot ∷ []) 0 k old in
              subst (λ (i : ℕ). (i < length (set cells slot None)) × (get_or (set cells slot None) i None ≡ None)) (sym at)
              (omega (arith, before.0, long), get_or-set_other cells slot (get_or spare k 0) None None (λ (e : get_or spare k 0 ≡ slot). two_slots cells slot (get_or spare k 0) some before.1 (sym e)) ∙ before.1)
          | inr new ↦
              subst (λ (i : ℕ). (i < length (set cells slot None)) × (get_or (set cells slot None) i None ≡ None)) (sym (get_or_push spare slot 0 k (omega (arith, lt, length-append spare (slot ∷ [])))))
              (omega (arith, long), get_or-set_same cells slot None None in_range)
        ];
        slots_apart = Apart-remove slots place inside kept.slots_apart;
        spare_apart = Apart-push spare slot kept.spare_apart (λ k d lt e. two_slots cells slot (get_or spare k 0) some (kept.unused k lt).1 (sym (default spare k d lt ∙ e)));
      }

  -- an arena with no object
  pub kept_empty : (size : ℕ) → IsKept [] [] (range_with_len 0 size) (replicate {A = Option T} size None)
  kept_empty size =
      let long = length-range_with_len 0 size in
      let long_cells = length-replicate {A = Option T} size None in
      record {
        beside = refl;
        total = omega (arith, long, long_cells);
        rising = λ i j lt within. absurd (omega arith);
        used = λ k lt. absurd (omega arith);
        unused = λ k lt.
            let at = get_or-range_with_len 0 size k 0 (omega (arith, lt, long)) in
            (omega (arith, at, lt, long, long_cells), get_or-replicate size _ None None (omega (arith, at, lt, long)));
        slots_apart = λ i j lt within. absurd (omega arith);
        spare_apart = λ i j lt within e. absurd (omega (arith, within, long, get_or-range_with_len 0 size i 0 (omega (arith, within, long)), get_or-range_with_len 0 size j 0 (omega (arith, within, long))));
      }

  -- the same lists under other names
  pub kept_as : (ids slots spare ids' slots' spare' : List ℕ) (cells cells' : List (Option T)) → IsKept ids slots spare cells → ids' ≡ ids → slots' ≡ slots → spare' ≡ spare → cells' ≡ cells → IsKept ids' slots' spare' cells'
  kept_as ids slots spare ids' slots' spare' cells cells' kept a b s e =
      subst (λ (xs : List ℕ). IsKept xs slots' spare' cells') (sym a)
      (subst (λ (xs : List ℕ). IsKept ids xs spare' cells') (sym b)
      (subst (λ (xs : List ℕ). IsKept ids slots xs cells') (sym s)
      (subst (λ (os : List (Option T)). IsKept ids slots spare os) (sym e) kept)))
