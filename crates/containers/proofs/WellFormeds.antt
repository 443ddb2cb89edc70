-- The view is well formed.
use Rattle.std.proofs.Common.{◌≡◌, ℕ, ◌<◌, inl, inr, Bool, true, false, cond, ◌||◌, ◌==◌, List, [], ◌∷◌, length, get_or, refl, sym, ap, ◌∙◌, subst, arith, lit<}
use Rattle.std.proofs.lemmas.Bool.{cases_Bool, both_ways}
use Rattle.std.proofs.lemmas.List.{length-map}
use Rattle.containers.specs.Lists.{Lists, family_at, cells_at}
use Rattle.containers.specs.Objects.{Objects, Rises, Apart, IsWellFormed as IsArenaWellFormed}
use Rattle.containers.specs.Cells.{Stands, IsRecorded, IsLink}
use Rattle.base.specs.Live.{has}
use Rattle.containers.specs.Tree.{Tree, ids_in, list_of}
use Rattle.containers.specs.View.{head_in, ids_of, lists_of, IsKept}
use Rattle.containers.specs.WellFormed.{IsWellFormed}
use Rattle.containers.proofs.Directories.{listing_of}
use Rattle.containers.proofs.Unrefs.{object_there}
use Rattle.containers.proofs.Asked.{id_named}
use Rattle.containers.proofs.Orders.{list_at_slot}
use Rattle.containers.proofs.Views.{at_has, has_at, ids_are, or_left, or_right, slot_one, listed_links}

-- an id that has no list lists nothing
absent_list : (lists : List (ℕ × List ℕ)) (i : ℕ) → has (ids_in lists) i ≡ false → list_of lists i ≡ []
absent_list [] i h = refl
absent_list (e ∷ es) i h = elim (cases_Bool (i == e.0)) [
  | inl is ↦ absurd (both_ways (i == e.0 || has (ids_in es) i) h (or_left (i == e.0) (has (ids_in es) i) is))
  | inr other ↦ ap (λ (v : Bool). cond v e.1 (list_of es i)) other ∙ absent_list es i (elim (cases_Bool (has (ids_in es) i)) [
    | inl there ↦ absurd (both_ways (i == e.0 || has (ids_in es) i) h (or_right (i == e.0) (has (ids_in es) i) there))
    | inr off ↦ off
  ])
]

module _ (size root : ℕ) (r : List Lists) (names ids slots : List ℕ) (kept : IsKept size root r names ids slots) where
  -- the slot that a cell of a recorded slot names
  record IsEntryAt (s k : ℕ) : Type 0 where
    object : ℕ
    link : IsLink size r s object (get_or (cells_at r 0 s) k 0)
    recorded : IsRecorded size root r object
    id_is : get_or (ids_of r names s) k 0 ≡ get_or names object 0

  entry_at : (s k : ℕ) → IsRecorded size root r s → k < length (cells_at r 0 s) → IsEntryAt s k
  entry_at s k rec lt =
      let cell = get_or (cells_at r 0 s) k 0 in
      let held : Stands r 0 s cell = record { place = k; stands = record { within = lt; is = refl } } in
      let of = kept.sound.paired.object_of s cell (λ (e : s ≡ size). omega (arith, rec.within)) held in
      record {
        object = of.0;
        link = record { holder = rec.within; object = of.1; held = held; names = of.2 };
        recorded = record { within = of.1; reached = inr (cell, of.2) };
        id_is = id_named r names (kept.sound.paired.well 1 (lit< tt)) s k cell of.0 held.stands of.2;
      }

  ids_apart : (s : ℕ) → IsRecorded size root r s → Apart (ids_of r names s)
  ids_apart s rec i j lt within same =
      let long = length-map (cells_at r 0 s) (λ (c : ℕ). get_or names (head_in (family_at r 1).lists c) 0) in
      let late : j < length (cells_at r 0 s) = omega (arith, within, long) in
      let a = entry_at s i rec (omega arith) in
      let b = entry_at s j rec late in
      let one = slot_one size root r names ids slots kept.sound (listing_of kept.directory) a.object b.object a.recorded b.recorded (sym a.id_is ∙ same ∙ b.id_is) in
      let cells_same = kept.simple s b.object (get_or (cells_at r 0 s) i 0) (get_or (cells_at r 0 s) j 0) (subst (λ (o : ℕ). IsLink size r s o (get_or (cells_at r 0 s) i 0)) one a.link) b.link in
      let early : i < length (cells_at r 0 s) = omega arith in
      let places : i ≡ j = (kept.sound.paired.well 0 (lit< tt)).one_place s i j (get_or (cells_at r 0 s) j 0) (record { within = early; is = cells_same }) (record { within = late; is = refl }) in
      omega arith

  -- no list has an id twice
  lists_apart : (i : ℕ) → Apart (list_of (lists_of r names ids slots) i)
  lists_apart i = elim (cases_Bool (has (ids_in (lists_of r names ids slots)) i)) [
    | inl there ↦
        let at = at_has ids i (subst (λ (xs : List ℕ). has xs i ≡ true) (ids_are r names ids slots kept.directory.beside) there) in
        let slot = get_or slots at.0 0 in
        let rec = kept.directory.recorded at.0 at.1 in
        let list = list_at_slot size root r names ids slots kept.directory slot rec in
        subst (λ (x : ℕ). Apart (list_of (lists_of r names ids slots) x)) (kept.directory.name at.0 at.1 ∙ at.2)
        (subst (λ (xs : List ℕ). Apart xs) (sym list) (ids_apart slot rec))
    | inr off ↦ subst (λ (xs : List ℕ). Apart xs) (sym (absent_list (lists_of r names ids slots) i off)) (λ j k lt within. absurd (omega arith))
  ]

module _ {T : Type 0} (size root : ℕ) (r : List Lists) (names : List ℕ) (a : Objects T) (kept : IsKept size root r names a.ids a.slots) where
  abbrev shown : Tree T
  shown = record { lists = lists_of r names a.ids a.slots; slots = a.slots; cells = a.cells }

  pub view_well : IsArenaWellFormed a → IsWellFormed shown
  view_well well =
      let same = ids_are r names a.ids a.slots kept.directory.beside in
      record {
        beside = ap (λ (xs : List ℕ). length xs) same ∙ well.beside;
        rises = subst (λ (xs : List ℕ). Rises xs) (sym same) well.rises;
        apart = well.apart;
        within = well.within;
        there = well.there;
        listed = λ d o h.
            let at = object_there size root r names a.ids a.slots kept d o h in
            subst (λ (xs : List ℕ). has xs o ≡ true) (sym same) (has_at a.ids at.0 o at.1 at.2);
        root_free = λ d h.
            let n = listed_links size root r names a.ids a.slots kept.sound (listing_of kept.directory) d 1 h in
            let rec : IsRecorded size root r n.o = record { within = n.listed.link.object; reached = inr (n.listed.cell, n.listed.link.names) } in
            let at_root : IsRecorded size root r root = record { within = kept.sound.root_in; reached = inl refl } in
            let is : n.o ≡ root = slot_one size root r names a.ids a.slots kept.sound (listing_of kept.directory) n.o root rec at_root (n.o_is ∙ sym kept.root_id) in
            kept.sound.root_free n.listed.cell (subst (λ (i : ℕ). Stands r 1 i n.listed.cell) is n.listed.link.names);
        once = lists_apart size root r names a.ids a.slots kept;
      }
