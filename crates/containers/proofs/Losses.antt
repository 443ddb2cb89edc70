-- What went of a tree, by ids and by weight.
use Rattle.std.proofs.Common.{◌≡◌, ◌≢◌, ℕ, zero, suc, ◌+◌, ◌<◌, Bool, true, false, cond, not, ◌||◌, ◌&&◌, ◌==◌, List, [], ◌∷◌, ◌++◌, length, get_or, refl, sym, ◌∙◌, ap, arith, sum_by, inl, inr}
use Rattle.std.specs.Prelude.{Contains}
use Rattle.std.proofs.lemmas.Bool.{cases_Bool, both_ways, eqb-true, eq-eqb}
use Rattle.std.proofs.lemmas.List.{get_or_default}
use Rattle.std.proofs.lemmas.List.Sums.{sum_by-cons, sum_by-append}
use Rattle.containers.specs.Objects.{Rises}
use Rattle.base.specs.Live.{has}
use Rattle.containers.specs.declared.visitor.Located.{Located}
use Rattle.containers.specs.Tree.{Tree, ids_in, HasSlot}
use Rattle.containers.specs.Visits.{object_ids, IsHanded, IsLost}
use Rattle.containers.proofs.Distinct.{Distinct, distinct_from, distinct_append, has_append, same_sum}
use Rattle.containers.proofs.Lists.{no_room}
use Rattle.containers.proofs.Unrefs.{map_contains}
use Rattle.containers.proofs.Views.{has_at, at_has}

-- the slot beside an id
abbrev pub slot_of : List ℕ → List ℕ → ℕ → ℕ
slot_of [] slots id = 0
slot_of (i ∷ ids) [] id = 0
slot_of (i ∷ ids) (s ∷ slots) id = cond (id == i) s (slot_of ids slots id)

rises_apart : (ids : List ℕ) → Rises ids → (j k : ℕ) → j < k → k < length ids → get_or ids j 0 ≢ get_or ids k 0
rises_apart ids rise j k lt within same =
    let less : get_or ids j 0 < get_or ids k 0 = rise j k lt within in
    omega arith

-- the slot at a place is found by its id
pub slot_at : (ids slots : List ℕ) (k : ℕ) → length ids ≡ length slots → Rises ids → k < length ids
    → slot_of ids slots (get_or ids k 0) ≡ get_or slots k 0
slot_at [] slots k long rise lt = absurd (omega arith)
slot_at (i ∷ ids) [] k long rise lt = absurd (no_room (length ids) long)
slot_at (i ∷ ids) (s ∷ slots) zero long rise lt = ap (λ (b : Bool). cond b s (slot_of ids slots i)) (eq-eqb i i refl)
slot_at (i ∷ ids) (s ∷ slots) (suc k) long rise lt =
    let less : i < get_or ids k 0 = rise 0 (suc k) (omega arith) (omega arith) in
    let other : (get_or ids k 0 == i) ≡ false = elim (cases_Bool (get_or ids k 0 == i)) [
      | inl is ↦ let e = eqb-true (get_or ids k 0) i is in absurd (omega arith)
      | inr off ↦ off
    ] in
    ap (λ (b : Bool). cond b s (slot_of ids slots (get_or ids k 0))) other
    ∙ slot_at ids slots k (omega arith) (λ a b c d. rise (suc a) (suc b) (omega arith) (omega arith)) (omega arith)

-- sums over ids and over the slots beside them
sum_beside : (f g : ℕ → ℕ) (ids slots : List ℕ) → length ids ≡ length slots
    → ((k : ℕ) → k < length ids → f (get_or ids k 0) ≡ g (get_or slots k 0)) → sum_by f ids ≡ sum_by g slots
sum_beside f g [] [] long same = refl
sum_beside f g [] (s ∷ slots) long same = absurd (no_room (length slots) (sym long))
sum_beside f g (x ∷ ids) [] long same = absurd (no_room (length ids) long)
sum_beside f g (x ∷ ids) (s ∷ slots) long same =
    let here : f x ≡ g s = same 0 (omega arith) in
    let rest : sum_by f ids ≡ sum_by g slots
    = sum_beside f g ids slots (omega arith) (λ k lt. same (suc k) (omega arith)) in
    let a : sum_by f (x ∷ ids) ≡ f x + sum_by f ids = sum_by-cons f x ids in
    let b : sum_by g (s ∷ slots) ≡ g s + sum_by g slots = sum_by-cons g s slots in
    omega arith

-- ids rise, each with a slot
pub record IsShown {T : Type 0} (t : Tree T) : Type 0 where
  pub beside : length (ids_in t.lists) ≡ length t.slots
  pub rises : Rises (ids_in t.lists)

module _ {T : Type 0} (old new : Tree T) (went : List (Located × Located)) (dead : List Located) (handed : IsHanded old new went dead) where
  dead_was : (i : ℕ) → has (object_ids dead) i ≡ true → (has (ids_in old.lists) i ≡ true) × (has (ids_in new.lists) i ≡ false)
  dead_was i is =
      let at = at_has (object_ids dead) i is in
      let c : Contains (object_ids dead) i = (at.0, at.1, get_or_default (object_ids dead) at.0 i 0 at.1 ∙ at.2) in
      let x = map_contains (λ (y : Located). y.id) dead i c in (
        ap (has (ids_in old.lists)) (sym x.2) ∙ handed.objects_was x.0 x.1,
        elim (cases_Bool (has (ids_in new.lists) i)) [
          | inl on ↦ absurd (handed.objects_gone x.0 x.1 (ap (has (ids_in new.lists)) x.2 ∙ on))
          | inr off ↦ off
        ],
      )

  -- who died was there and isn't
  pub died : (i : ℕ) → has (object_ids dead) i ≡ (has (ids_in old.lists) i && not (has (ids_in new.lists) i))
  died i = elim (cases_Bool (has (object_ids dead) i)) [
    | inl is ↦ let w = dead_was i is in is ∙ sym (λ j. w.0 j && not (w.1 j))
    | inr never ↦ elim (cases_Bool (has (ids_in old.lists) i)) [
      | inl was ↦ elim (handed.objects_all i was) [
        | inl now ↦ never ∙ sym (λ j. was j && not (now j))
        | inr c ↦ absurd (both_ways (has (object_ids dead) i) never
            (has_at (object_ids dead) c.0 i c.1 (get_or_default (object_ids dead) c.0 0 i c.1 ∙ c.2)))
      ]
      | inr gone ↦ never ∙ sym (ap (λ (v : Bool). v && not (has (ids_in new.lists) i)) gone)
    ]
  ]

  module _ (was : IsShown old) (now : IsShown new) (kept : (id slot : ℕ) → HasSlot new id slot → HasSlot old id slot) where
    abbrev slot : ℕ → ℕ
    slot i = slot_of (ids_in old.lists) old.slots i

    slot_is : (id s : ℕ) → HasSlot old id s → slot id ≡ s
    slot_is id s h =
        ap slot (sym h.id_is) ∙ slot_at (ids_in old.lists) old.slots h.place was.beside was.rises h.within ∙ h.slot_is

    here : (k : ℕ) → k < length (ids_in new.lists) → HasSlot new (get_or (ids_in new.lists) k 0) (get_or new.slots k 0)
    here k lt = record { place = k; within = lt; id_is = refl; slot_is = refl }

    stayed : (i : ℕ) → has (ids_in new.lists) i ≡ true → has (ids_in old.lists) i ≡ true
    stayed i h =
        let at = at_has (ids_in new.lists) i h in
        let was_at = kept (get_or (ids_in new.lists) at.0 0) (get_or new.slots at.0 0) (here at.0 at.1) in
        has_at (ids_in old.lists) was_at.place i was_at.within (was_at.id_is ∙ at.2)

    members : (i : ℕ) → has (ids_in old.lists) i ≡ has (ids_in new.lists ++ object_ids dead) i
    members i = elim (cases_Bool (has (ids_in new.lists) i)) [
      | inl on ↦ stayed i on ∙ sym (has_append (ids_in new.lists) (object_ids dead) i ∙ ap (λ (b : Bool). b || has (object_ids dead) i) on)
      | inr off ↦
          sym (has_append (ids_in new.lists) (object_ids dead) i ∙ ap (λ (b : Bool). b || has (object_ids dead) i) off
          ∙ died i ∙ ap (λ (b : Bool). has (ids_in old.lists) i && not b) off ∙ all (has (ids_in old.lists) i))
    ]
      where
        all : (b : Bool) → (b && true) ≡ b
        all true = refl
        all false = refl

    apart : Distinct (ids_in new.lists ++ object_ids dead)
    apart = distinct_append (ids_in new.lists) (object_ids dead)
        (distinct_from (ids_in new.lists) (rises_apart (ids_in new.lists) now.rises))
        (distinct_from (object_ids dead) (λ i j lt within. handed.objects_once i j 0 lt within))
        (λ i on. elim (cases_Bool (has (object_ids dead) i)) [
          | inl is ↦ absurd (both_ways (has (ids_in new.lists) i) (dead_was i is).1 on)
          | inr never ↦ never
        ])

    dead_sum : (f : ℕ → ℕ) (ps : List Located) → ((x : Located) → Contains ps x → HasSlot old x.id x.slot.0)
        → sum_by (λ (x : Located). f x.slot.0) ps ≡ sum_by (λ i. f (slot i)) (object_ids ps)
    dead_sum f [] slots = refl
    dead_sum f (x ∷ xs) slots =
        let a = sum_by-cons (λ (y : Located). f y.slot.0) x xs in
        let b = sum_by-cons (λ (i : ℕ). f (slot i)) x.id (object_ids xs) in
        let first : f x.slot.0 ≡ f (slot x.id) = ap f (sym (slot_is x.id x.slot.0 (slots x (0, omega arith, refl)))) in
        let rest = dead_sum f xs (λ y c. slots y (suc c.0, omega (arith, c.1), c.2)) in
        omega (arith, a, b, first, rest)

    -- what all slots weigh, those that are left and those of the dead weigh
    pub weighed : (f : ℕ → ℕ) → sum_by f old.slots ≡ sum_by f new.slots + sum_by (λ (x : Located). f x.slot.0) dead
    weighed f =
        let a = sum_beside (λ i. f (slot i)) f (ids_in old.lists) old.slots was.beside
        (λ k lt. ap f (slot_at (ids_in old.lists) old.slots k was.beside was.rises lt)) in
        let b = sum_beside (λ i. f (slot i)) f (ids_in new.lists) new.slots now.beside
        (λ k lt. ap f (slot_is (get_or (ids_in new.lists) k 0) (get_or new.slots k 0)
        (kept (get_or (ids_in new.lists) k 0) (get_or new.slots k 0) (here k lt)))) in
        let c = dead_sum f dead handed.objects_slots in
        let all = same_sum (λ i. f (slot i)) (ids_in old.lists) (ids_in new.lists ++ object_ids dead)
        (distinct_from (ids_in old.lists) (rises_apart (ids_in old.lists) was.rises)) apart members in
        let parts = sum_by-append (λ i. f (slot i)) (ids_in new.lists) (object_ids dead) in
        omega (arith, a, b, c, all, parts)

    pub lost : IsLost old new dead
    lost = record { died = died; weighed = weighed }
