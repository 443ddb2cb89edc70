-- What changes of an arena keep its hints.
use Rattle.std.proofs.Common.{◌≡◌, ◌≢◌, ℕ, ◌+◌, ◌-◌, ◌<◌, ◌≤◌, ◌⊎◌, inl, inr, List, [], ◌∷◌, ◌++◌, length, get_or, Option, Some, None, refl, sym, ap, ◌∙◌, subst, arith, length-append}
use Rattle.std.specs.Prelude.{Contains, remove, replicate, IfSome}
use Rattle.std.proofs.lemmas.Bool.{cases_lt}
use Rattle.std.proofs.lemmas.List.{get_or_append_left, get_or_push, get_or_past, get_or_default, get_or-replicate, length-replicate}
use Rattle.std.proofs.lemmas.List.Edits.{get_or-remove_below, get_or-remove_above, length-remove}
use Rattle.containers.specs.Objects.{Objects, IsEntry, IsWithoutAll}
use Rattle.containers.specs.Hints.{blank, hint_at, hint_place, IsHint, AreHints, IsKeptHint, IsForgotten, IsHintCount}
use Rattle.containers.specs.declared.object_arena.hints.Hint.{Hint}

-- a blank is no hint
pub blank_is : (ids slots : List ℕ) (count k : ℕ) (h : Hint) → h ≡ blank → 0 < h.id → IsHint ids slots count k h
blank_is ids slots count k h is some = let zero : h.id ≡ 0 = λ i. (is i).id in absurd (omega arith)

pub hints_empty : (n : ℕ) → AreHints [] [] (replicate n blank)
hints_empty n k some = blank_is [] [] _ k _ (at (cases_lt k n)) some
  where
    at : (k < n) ⊎ (n ≤ k) → hint_at (replicate n blank) k ≡ blank
    at (inl lt) = get_or-replicate n k blank blank lt
    at (inr le) = get_or_past (replicate n blank) k blank (omega (arith, le, length-replicate {A = Hint} n blank))

-- a hint where there are so many
counted : (ids slots : List ℕ) (n m k : ℕ) (h : Hint) → n ≡ m → IsHint ids slots m k h → IsHint ids slots n k h
counted ids slots n m k h e is = subst (λ (c : ℕ). IsHint ids slots c k h) (sym e) is

-- of a place that has the hint which stood there
same_hint : (ids slots : List ℕ) (old new : List Hint) (k : ℕ) → length new ≡ length old → hint_at new k ≡ hint_at old k
    → IsHint ids slots (length old) k (hint_at old k) → IsHint ids slots (length new) k (hint_at new k)
same_hint ids slots old new k long same is =
    counted ids slots (length new) (length old) k (hint_at new k) long
    (subst (λ (h : Hint). IsHint ids slots (length old) k h) (sym same) is)

some_before : (new old : Hint) → new ≡ old → 0 < new.id → 0 < old.id
some_before new old same some = let is : new.id ≡ old.id = λ i. (same i).id in omega arith

-- an id more
hint_pushed : (ids slots : List ℕ) (id slot count k : ℕ) (h : Hint) → length ids ≡ length slots → IsHint ids slots count k h
    → IsHint (ids ++ id ∷ []) (slots ++ slot ∷ []) count k h
hint_pushed ids slots id slot count k h beside is = record {
  stands = is.stands;
  at = is.at;
  within = omega (arith, is.within, length-append ids (id ∷ []));
  id_is = get_or_append_left ids (id ∷ []) 0 is.at is.within ∙ is.id_is;
  slot_is = get_or_append_left slots (slot ∷ []) 0 is.at (omega (arith, is.within, beside)) ∙ is.slot_is;
}

hint_last : (ids slots : List ℕ) (count k : ℕ) (h : Hint) → length ids ≡ length slots → k ≡ hint_place h.id count
    → IsHint (ids ++ h.id ∷ []) (slots ++ h.slot ∷ []) count k h
hint_last ids slots count k h beside stands = record {
  stands = sym stands;
  at = length ids;
  within = omega (arith, length-append ids (h.id ∷ []));
  id_is = get_or_push ids h.id 0 (length ids) refl;
  slot_is = get_or_push slots h.slot 0 (length ids) (sym beside);
}

pub hints_insert : (ids slots : List ℕ) (old new : List Hint) (h : Hint) → length ids ≡ length slots → AreHints ids slots old
    → IsKeptHint old new h → AreHints (ids ++ h.id ∷ []) (slots ++ h.slot ∷ []) new
hints_insert ids slots old new h beside are kept k some = pick (kept.each k)
  where
    pick : (hint_at new k ≡ hint_at old k) ⊎ ((k ≡ hint_place h.id (length old)) × ((hint_at old k).id ≡ 0) × (hint_at new k ≡ h))
        → IsHint (ids ++ h.id ∷ []) (slots ++ h.slot ∷ []) (length new) k (hint_at new k)
    pick (inl same) = same_hint _ _ old new k kept.count same
        (hint_pushed ids slots h.id h.slot (length old) k (hint_at old k) beside (are k (some_before _ _ same some)))
    pick (inr here) = counted _ _ (length new) (length old) k (hint_at new k) kept.count
        (subst (λ (x : Hint). IsHint (ids ++ h.id ∷ []) (slots ++ h.slot ∷ []) (length old) k x) (sym here.2)
        (hint_last ids slots (length old) k h beside here.0))

-- the id that goes has no hint
differs : (old new : List Hint) (gone : List ℕ) (many i k : ℕ) → IsForgotten old new gone many → i < many
    → hint_place (hint_at new k).id (length old) ≡ k → 0 < (hint_at new k).id → (hint_at new k).id ≢ get_or gone i 0
differs old new gone many i k forgot lt stands some e =
    let id = get_or gone i 0 in
    let here : hint_place id (length old) ≡ k = ap (λ (x : ℕ). hint_place x (length old)) (sym e) ∙ stands in
    forgot.none i lt (omega (arith, e, some)) (ap (λ (x : ℕ). (hint_at new x).id) here ∙ e)

-- an id less
hint_removed : (ids slots : List ℕ) (place count k : ℕ) (h : Hint) → length ids ≡ length slots → place < length ids
    → h.id ≢ get_or ids place 0 → IsHint ids slots count k h → IsHint (remove ids place) (remove slots place) count k h
hint_removed ids slots place count k h beside within other is = elim (cases_lt is.at place) [
  | inl lt ↦ record {
    stands = is.stands;
    at = is.at;
    within = omega (arith, lt, within, length-remove ids place within);
    id_is = get_or-remove_below ids place 0 is.at lt within ∙ is.id_is;
    slot_is = get_or-remove_below slots place 0 is.at lt (omega (arith, within, beside)) ∙ is.slot_is;
  }
  | inr le ↦
      let apart : is.at ≢ place = λ (e : is.at ≡ place). other (sym is.id_is ∙ ap (λ (x : ℕ). get_or ids x 0) e) in
      let before : (is.at - 1) + 1 ≡ is.at = omega (arith, le, apart) in
      record {
        stands = is.stands;
        at = is.at - 1;
        within = omega (arith, before, is.within, length-remove ids place within);
        id_is = get_or-remove_above ids place 0 (is.at - 1) (omega (arith, le, apart)) within ∙ ap (λ (x : ℕ). get_or ids x 0) before ∙ is.id_is;
        slot_is = get_or-remove_above slots place 0 (is.at - 1) (omega (arith, le, apart)) (omega (arith, within, beside)) ∙ ap (λ (x : ℕ). get_or slots x 0) before ∙ is.slot_is;
      }
]

pub hints_remove : (ids slots : List ℕ) (old new : List Hint) (place : ℕ) → length ids ≡ length slots → place < length ids
    → AreHints ids slots old → IsForgotten old new (get_or ids place 0 ∷ []) 1 → AreHints (remove ids place) (remove slots place) new
hints_remove ids slots old new place beside within are forgot k some = pick (forgot.each k)
  where
    pick : (hint_at new k ≡ hint_at old k) ⊎ (hint_at new k ≡ blank)
        → IsHint (remove ids place) (remove slots place) (length new) k (hint_at new k)
    pick (inr gone) = blank_is _ _ _ k _ gone some
    pick (inl same) =
        let was = same_hint ids slots old new k forgot.count same (are k (some_before _ _ same some)) in
        let stands : hint_place (hint_at new k).id (length old) ≡ k = ap (λ (n : ℕ). hint_place (hint_at new k).id n) (sym forgot.count) ∙ was.stands in
        hint_removed ids slots place (length new) k (hint_at new k) beside within
        (differs old new (get_or ids place 0 ∷ []) 1 0 k forgot (omega arith) stands some) was

module _ {T : Type 0} where
  -- ids less
  pub hints_remove_all : (before after : Objects T) (gone : List ℕ) (old new : List Hint) → IsWithoutAll before after gone
      → AreHints before.ids before.slots old → IsForgotten old new gone (length gone) → AreHints after.ids after.slots new
  hints_remove_all before after gone old new without are forgot k some = pick (forgot.each k)
    where
      pick : (hint_at new k ≡ hint_at old k) ⊎ (hint_at new k ≡ blank) → IsHint after.ids after.slots (length new) k (hint_at new k)
      pick (inr none) = blank_is _ _ _ k _ none some
      pick (inl same) =
          let h = hint_at new k in
          let was = same_hint before.ids before.slots old new k forgot.count same (are k (some_before _ _ same some)) in
          let stands : hint_place h.id (length old) ≡ k = ap (λ (n : ℕ). hint_place h.id n) (sym forgot.count) ∙ was.stands in
          let stays : Contains gone h.id → ⊥ = λ (c : Contains gone h.id).
          differs old new gone (length gone) c.0 k forgot c.1 stands some (sym (get_or_default gone c.0 0 h.id c.1 ∙ c.2)) in
          let entry : IsEntry before was.at h.id h.slot = record { within = was.within; id_is = was.id_is; slot_is = was.slot_is } in
          let left = without.stays was.at h.id h.slot entry stays in
          record {
            stands = was.stands;
            at = left.0;
            within = left.1.within;
            id_is = left.1.id_is;
            slot_is = left.1.slot_is;
          }

-- as many, of as many slots
pub count_as : (count size count' size' : ℕ) → IsHintCount count size → count' ≡ count → size' ≡ size → IsHintCount count' size'
count_as count size count' size' is a b =
    subst (λ (c : ℕ). IsHintCount c size') (sym a) (subst (λ (n : ℕ). IsHintCount count n) (sym b) is)

-- the same under other names
pub hints_as : (ids slots ids' slots' : List ℕ) (hints : List Hint) → AreHints ids slots hints → ids' ≡ ids → slots' ≡ slots → AreHints ids' slots' hints
hints_as ids slots ids' slots' hints are a b =
    subst (λ (xs : List ℕ). AreHints xs slots' hints) (sym a) (subst (λ (xs : List ℕ). AreHints ids xs hints) (sym b) are)

module _ {T : Type 0} where
  -- what is hinted of an id is its slot
  pub hinted_is : (a : Objects T) (hints hints' : List Hint) (id : ℕ) (found : Option ℕ) → hints' ≡ hints → AreHints a.ids a.slots hints
      → IfSome found (λ slot. 0 < id) → IfSome found (λ slot. hint_at hints' (hint_place id (length hints')) ≡ record { id = id; slot = slot })
      → IfSome found (λ slot. (place : ℕ) × IsEntry a place id slot)
  hinted_is a hints hints' id None same are some is = some
  hinted_is a hints hints' id (Some slot) same are some is =
      let k = hint_place id (length hints) in
      let here : hint_at hints k ≡ record { id = id; slot = slot } = ap (λ (hs : List Hint). hint_at hs (hint_place id (length hs))) (sym same) ∙ is in
      let id_is : (hint_at hints k).id ≡ id = ap (λ (h : Hint). h.id) here in
      let hint = are k (omega (arith, some, id_is)) in
      (hint.at, record { within = hint.within; id_is = hint.id_is ∙ id_is; slot_is = hint.slot_is ∙ ap (λ (h : Hint). h.slot) here })
