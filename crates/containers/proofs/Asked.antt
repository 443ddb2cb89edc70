-- What a search by id, and a search for a link, tell of the view.
use Rattle.std.proofs.Common.{◌≡◌, ℕ, ◌+◌, ◌<◌, inl, inr, Bool, true, false, Option, Some, None, is_some, List, length, get_or, refl, sym, ap, ◌∙◌, subst, arith}
use Rattle.std.specs.Prelude.{slice_get, IfSome, IfNone}
use Rattle.std.proofs.lemmas.Bool.{cases_eq}
use Rattle.std.proofs.lemmas.Option.{IfSome_then}
use Rattle.base.specs.declared.ids.Slot.{Slot}
use Rattle.containers.specs.Lists.{Lists, family_at, cells_at, StandsAt, IsLinked, IsWellFormed}
use Rattle.containers.specs.Objects.{Objects, IsEntry, IsAbsent}
use Rattle.base.specs.Live.{has, links}
use Rattle.containers.specs.Tree.{Tree, HasSlot, ids_in, list_of}
use Rattle.containers.specs.View.{head_in, ids_of, lists_of, IsKept}
use Rattle.std.proofs.lemmas.List.{get_or-map, length-map}
use Rattle.containers.proofs.Directories.{listing_of}
use Rattle.containers.proofs.Orders.{list_at_slot}
use Rattle.containers.specs.Cells.{Stands, IsRecorded, Lists'}
use Rattle.containers.proofs.Handed.{first_stands, none_stands}
use Rattle.containers.proofs.Views.{at_has, ids_are, slot_one, object_found, links_listed, listed_links}
use Rattle.containers.proofs.Unrefs.{container_there, object_there, slots_listed}

-- what is never true is false
never : (b : Bool) → (b ≡ true → ⊥) → b ≡ false
never true h = absurd (h refl)
never false h = refl

-- whether there is an answer is a test
pub answered : (o : Option ℕ) (b : Bool) → IfSome o (λ _. b ≡ true) → IfNone o (b ≡ false) → is_some o ≡ b
answered None b some none = sym none
answered (Some x) b some none = sym some

pub IfNone-weaker : {X : Type 0} (o : Option X) (P Q : Type 0) → (P → Q) → IfNone o P → IfNone o Q
IfNone-weaker None P Q f p = f p
IfNone-weaker (Some x) P Q f p = p

module _ {T : Type 0} (size root : ℕ) (r : List Lists) (names : List ℕ) (a : Objects T) (kept : IsKept size root r names a.ids a.slots) where
  abbrev view : Tree T
  view = record { lists = lists_of r names a.ids a.slots; slots = a.slots; cells = a.cells }

  -- an entry of the directory
  pub entry_slot : (place id slot : ℕ) → IsEntry a place id slot → HasSlot view id slot
  entry_slot place id slot e =
      let same = ids_are r names a.ids a.slots kept.directory.beside in
      record { place = place; within = omega (arith, e.within, ap length same); id_is = ap (λ (xs : List ℕ). get_or xs place 0) same ∙ e.id_is; slot_is = e.slot_is }

  -- so what was found there is found here
  pub entry_found : (id : ℕ) (result : Option Slot) → IfSome result (λ slot. (place : ℕ) × IsEntry a place id slot.0) → IfSome result (λ slot. HasSlot view id slot.0)
  entry_found id result found = IfSome_then result found (λ slot e. entry_slot e.0 id slot.0 e.1)

  -- and of one of several ids that were found
  pub entry_of : {A : Type 0} (id : ℕ) (result : Option A) (slot : A → Slot)
      → IfSome result (λ s. (place : ℕ) × IsEntry a place id (slot s).0) → IfSome result (λ s. HasSlot view id (slot s).0)
  entry_of id result slot found = IfSome_then result found (λ s e. entry_slot e.0 id (slot s).0 e.1)

  -- and back
  pub slot_entry : (id slot : ℕ) (h : HasSlot view id slot) → IsEntry a h.place id slot
  slot_entry id slot h =
      let same = ids_are r names a.ids a.slots kept.directory.beside in
      record { within = omega (arith, h.within, ap length same); id_is = ap (λ (xs : List ℕ). get_or xs h.place 0) (sym same) ∙ h.id_is; slot_is = h.slot_is }

  -- and none
  pub absent_id : (id : ℕ) → IsAbsent a id → has (ids_in (lists_of r names a.ids a.slots)) id ≡ false
  absent_id id none = never (has (ids_in (lists_of r names a.ids a.slots)) id) (λ h.
      let at = at_has a.ids id (subst (λ (xs : List ℕ). has xs id ≡ true) (ids_are r names a.ids a.slots kept.directory.beside) h) in
      none at.0 at.1 at.2)

  pub absent_container : (d o : ℕ) → IsAbsent a d → links (lists_of r names a.ids a.slots) d o ≡ false
  absent_container d o none = never (links (lists_of r names a.ids a.slots) d o) (λ h.
      let at = container_there size root r names a.ids a.slots kept d o h in none at.0 at.1 at.2)

  pub absent_object : (d o : ℕ) → IsAbsent a o → links (lists_of r names a.ids a.slots) d o ≡ false
  absent_object d o none = never (links (lists_of r names a.ids a.slots) d o) (λ h.
      let at = object_there size root r names a.ids a.slots kept d o h in none at.0 at.1 at.2)

  module _ (place id slot : ℕ) (e : IsEntry a place id slot) where
    pub entry_recorded : IsRecorded size root r slot
    entry_recorded = subst (λ (s : ℕ). IsRecorded size root r s) e.slot_is (kept.directory.recorded place e.within)

    pub entry_name : get_or names slot 0 ≡ id
    entry_name = ap (λ (s : ℕ). get_or names s 0) (sym e.slot_is) ∙ kept.directory.name place e.within ∙ e.id_is

  -- a slot that was found, by the view
  module _ (t : Tree T) (is : view ≡ t) (id slot : ℕ) (h : HasSlot t id slot) where
    found_entry : IsEntry a h.place id slot
    found_entry = slot_entry id slot (subst (λ (v : Tree T). HasSlot v id slot) (sym is) h)

    pub found_recorded : IsRecorded size root r slot
    found_recorded = entry_recorded h.place id slot found_entry

    pub found_name : get_or names slot 0 ≡ id
    found_name = entry_name h.place id slot found_entry

  -- a link between two entries
  module _ (place id slot place' id' slot' : ℕ) (d : IsEntry a place id slot) (o : IsEntry a place' id' slot') where
    pub link_true : Lists' size r slot slot' → links (lists_of r names a.ids a.slots) id id' ≡ true
    link_true l =
        let h = links_listed size root r names a.ids a.slots kept.sound (listing_of kept.directory) slot slot' l in
        subst (λ (i : ℕ). links (lists_of r names a.ids a.slots) i id' ≡ true) (entry_name place id slot d)
        (subst (λ (i : ℕ). links (lists_of r names a.ids a.slots) (get_or names slot 0) i ≡ true) (entry_name place' id' slot' o) h)

    pub link_false : (Lists' size r slot slot' → ⊥) → links (lists_of r names a.ids a.slots) id id' ≡ false
    link_false none = never (links (lists_of r names a.ids a.slots) id id') (λ h.
        none (slots_listed size root r names a.ids a.slots kept id id' h place place' slot slot' d.within o.within d.id_is o.id_is d.slot_is o.slot_is))

  -- a link between two slots that were found
  module _ (t : Tree T) (is : view ≡ t) (id slot id' slot' : ℕ) (h : HasSlot t id slot) (h' : HasSlot t id' slot') where
    d : IsEntry a h.place id slot
    d = found_entry t is id slot h

    o : IsEntry a h'.place id' slot'
    o = found_entry t is id' slot' h'

    pub found_true : Lists' size r slot slot' → links t.lists id id' ≡ true
    found_true l = ap (λ (v : Tree T). links v.lists id id') (sym is) ∙ link_true h.place id slot h'.place id' slot' d o l

    pub found_false : (Lists' size r slot slot' → ⊥) → links t.lists id id' ≡ false
    found_false none = ap (λ (v : Tree T). links v.lists id id') (sym is) ∙ link_false h.place id slot h'.place id' slot' d o none

  -- the first link to an entry
  module _ (place id slot : ℕ) (e : IsEntry a place id slot) where
    -- it stands in the list of a slot
    record IsHeld (cell : ℕ) : Type 0 where
      pub holder : ℕ
      pub within : holder < size
      pub held : Stands r 0 holder cell

    first_held : (cell : ℕ) → Some cell ≡ slice_get (cells_at r 1 slot) 0 → IsHeld cell
    first_held cell first =
        let st = first_stands r 1 slot cell first in
        let rec = entry_recorded place id slot e in
        let by = kept.sound.paired.holder_of slot cell (λ (x : slot ≡ size). omega (arith, rec.within)) st in
        elim (cases_eq by.0 (size + 1)) [
          | inl dies ↦ absurd (kept.calm slot (record { cell = cell; dying = subst (λ (h : ℕ). Stands r 0 h cell) dies by.3; names = st }))
          | inr ne ↦ record { holder = by.0; within = omega (arith, by.1, by.2, ne); held = by.3 }
        ]

    pub first_linked : (cell : ℕ) → Some cell ≡ slice_get (cells_at r 1 slot) 0 → IsLinked (family_at r 0) cell
    first_linked cell first = let h = first_held cell first in (h.holder, h.held.place, h.held.stands)

    module _ (cell holder : ℕ) (first : Some cell ≡ slice_get (cells_at r 1 slot) 0) (is : (h k : ℕ) → StandsAt (cells_at r 0 h) k cell → holder ≡ h) where
      pub holder_within : holder < size
      holder_within = let h = first_held cell first in omega (arith, h.within, is h.holder h.held.place h.held.stands)

      pub holder_links : links (lists_of r names a.ids a.slots) (get_or names holder 0) id ≡ true
      holder_links =
          let h = first_held cell first in
          let rec = entry_recorded place id slot e in
          let same : h.holder ≡ holder = sym (is h.holder h.held.place h.held.stands) in
          let l : Lists' size r h.holder slot = record { cell = cell; link = record { holder = h.within; object = rec.within; held = h.held; names = first_stands r 1 slot cell first } } in
          let linked = links_listed size root r names a.ids a.slots kept.sound (listing_of kept.directory) h.holder slot l in
          subst (λ (i : ℕ). links (lists_of r names a.ids a.slots) (get_or names i 0) id ≡ true) same
          (subst (λ (i : ℕ). links (lists_of r names a.ids a.slots) (get_or names h.holder 0) i ≡ true) (entry_name place id slot e) linked)

    pub none_links : None ≡ slice_get (cells_at r 1 slot) 0 → (d : ℕ) → links (lists_of r names a.ids a.slots) d id ≡ false
    none_links first d = never (links (lists_of r names a.ids a.slots) d id) (λ h.
        let n = listed_links size root r names a.ids a.slots kept.sound (listing_of kept.directory) d id h in
        let rec = entry_recorded place id slot e in
        let rec' : IsRecorded size root r n.o = record { within = n.listed.link.object; reached = inr (n.listed.cell, n.listed.link.names) } in
        let same : n.o ≡ slot = slot_one size root r names a.ids a.slots kept.sound (listing_of kept.directory) n.o slot rec' rec (n.o_is ∙ sym (entry_name place id slot e)) in
        none_stands r 1 slot first n.listed.cell (subst (λ (i : ℕ). Stands r 1 i n.listed.cell) same n.listed.link.names))

    -- what it lists
    pub entry_list : list_of (lists_of r names a.ids a.slots) id ≡ ids_of r names slot
    entry_list =
        ap (λ (i : ℕ). list_of (lists_of r names a.ids a.slots) i) (sym (entry_name place id slot e))
        ∙ list_at_slot size root r names a.ids a.slots kept.directory slot (entry_recorded place id slot e)

    pub entry_length : length (list_of (lists_of r names a.ids a.slots) id) ≡ length (cells_at r 0 slot)
    entry_length = ap (λ (xs : List ℕ). length xs) entry_list ∙ length-map (cells_at r 0 slot) (λ (c : ℕ). get_or names (head_in (family_at r 1).lists c) 0)

-- the id that a cell names
pub id_named : (r : List Lists) (names : List ℕ) → IsWellFormed (family_at r 1) → (slot j cell object : ℕ) → StandsAt (cells_at r 0 slot) j cell → Stands r 1 object cell → get_or (ids_of r names slot) j 0 ≡ get_or names object 0
id_named r names well slot j cell object at named =
    get_or-map (λ (c : ℕ). get_or names (head_in (family_at r 1).lists c) 0) (cells_at r 0 slot) j 0 0 at.within
    ∙ ap (λ (c : ℕ). get_or names (head_in (family_at r 1).lists c) 0) at.is
    ∙ ap (λ (i : ℕ). get_or names i 0) (object_found r well object cell named)
