-- The objects of sound pieces, each shaped by its id and its list.
use Rattle.std.proofs.Common.{◌≡◌, ℕ, true, List, get_or, Some, refl, sym, ◌∙◌, ap, arith, inl, inr}
use Rattle.std.proofs.lemmas.Bool.{cases_eq}
use Rattle.std.specs.Ordering.{nat_cmp}
use Rattle.std.specs.Map.{lookup}
use Rattle.std.specs.BTreeMap.{is_at}
use Rattle.base.specs.Live.{has}
use Rattle.containers.specs.Tree.{ids_in, list_of, HasSlot}
use Rattle.containers.proofs.Lists.{list_at_place}
use Rattle.containers.proofs.Views.{at_has}
use Rattle.kernel_rules.specs.State.{object_at}
use Rattle.kernel_rules.specs.declared.objects.Object.{Object}
use Rattle.arena_state.specs.declared.pieces.Pieces.{Pieces}
use Rattle.arena_state.specs.Rows.{row_slot, rows_of}
use Rattle.arena_state.specs.Assembled.{pieces_state, object_in, objects_in, record_in, assembled}
use Rattle.arena_state.specs.Sound.{IsSound}
use Rattle.arena_state.proofs.RowLaws.{row_place}
use Rattle.arena_state.proofs.SoundLaws.{row_found, object_here, apart_at}
use Rattle.arena_state.proofs.ListLaws.{by_id, rows_by_id}
use Rattle.arena_state.proofs.UnlinkLaws.{slot_at}

module _ (p : Pieces) (s : IsSound p) where
  -- the slot of an id
  abbrev pub slot_of : ℕ → ℕ
  slot_of i = row_slot (lookup (is_at (nat_cmp i)) (rows_of p.places.lists p.places.slots))

  pub slot_is : (id slot : ℕ) → HasSlot p.places id slot → slot_of id ≡ slot
  slot_is id slot h = ap row_slot (row_found p s id slot h) ∙ h.slot_is

  -- the object of an id with a list
  abbrev pub shape : ℕ → List ℕ → Object
  shape i l = assembled p.holdings.labels (record_in p.holdings.records.items (slot_of i)) l

  pub objects_are : objects_in p.holdings (rows_of p.places.lists p.places.slots) ≡ by_id shape p.places.lists
  objects_are = rows_by_id (object_in p.holdings) shape p.places.lists p.places.slots s.tree.beside
      (λ k lt. ap (λ (x : ℕ). assembled p.holdings.labels (record_in p.holdings.records.items x)
      (row_place p.places.lists p.places.slots k).list)
      (sym (slot_is (get_or (ids_in p.places.lists) k 0) (get_or p.places.slots k 0) (slot_at p.places k lt))))

  -- the slot of an id that has a list
  pub has_slot : (i : ℕ) → has (ids_in p.places.lists) i ≡ true → (slot : ℕ) × HasSlot p.places i slot
  has_slot i h =
      let at = at_has (ids_in p.places.lists) i h in
      (get_or p.places.slots at.0 0, record { place = at.0; within = at.1; id_is = at.2; slot_is = refl })

  pub object_is : (i : ℕ) → has (ids_in p.places.lists) i ≡ true
      → object_at (pieces_state p) i ≡ Some (shape i (list_of p.places.lists i))
  object_is i h =
      let at = has_slot i h in
      object_here p s i at.0 at.1
      ∙ ap (λ (x : ℕ). Some (assembled p.holdings.labels (record_in p.holdings.records.items x)
      (row_place p.places.lists p.places.slots at.1.place).list)) (sym (slot_is i at.0 at.1))
      ∙ ap (λ (l : List ℕ). Some (shape i l))
      (sym (ap (list_of p.places.lists) (sym at.1.id_is)
      ∙ list_at_place p.places.lists at.1.place s.tree.rises at.1.within))

  -- two ids have two slots
  pub one_id : (i j slot : ℕ) → HasSlot p.places i slot → HasSlot p.places j slot → i ≡ j
  one_id i j slot h k = elim (cases_eq h.place k.place) [
    | inl e ↦ sym h.id_is ∙ ap (λ (x : ℕ). get_or (ids_in p.places.lists) x 0) e ∙ k.id_is
    | inr off ↦ absurd (apart_at p.places.slots s.tree.apart h.place k.place
        (omega (arith, h.within, s.tree.beside)) (omega (arith, k.within, s.tree.beside)) off
        (h.slot_is ∙ sym k.slot_is))
  ]
