-- A new object among sound pieces: its state.
use Rattle.std.proofs.Common.{◌≡◌, ◌≢◌, ℕ, zero, suc, ◌+◌, ◌<◌, ◌≤◌, true, false, nat_lt, List, [], ◌∷◌, ◌++◌, length, get_or, set, Option, Some, IsSome, is_some, refl, sym, ◌∙◌, ap, subst, arith, inl, inr, length-set}
use Rattle.std.specs.Prelude.{All}
use Rattle.std.specs.List.{list_all}
use Rattle.std.specs.Ordering.{nat_cmp}
use Rattle.std.specs.Map.{lookup, set_value}
use Rattle.std.specs.BTreeMap.{is_at}
use Rattle.std.proofs.lemmas.Bool.{cases_eq, both_ways, and_parts, ltb-true}
use Rattle.std.proofs.lemmas.List.{get_or-set_same, get_or-set_other}
use Rattle.std.proofs.lemmas.Option.{same_Some}
use Rattle.base.specs.Live.{has}
use Rattle.base.specs.declared.kinds.Kind.TheVariants as kinds
use Rattle.containers.specs.Tree.{ids_in, list_of, add_lists, link_count, HasSlot, record_at}
use Rattle.containers.proofs.Views.{has_at}
use Rattle.containers.proofs.Lists.{ids_added, list_at_place}
use Rattle.label_intern.specs.declared.held.Held.{Held}
use Rattle.label_intern.specs.Held.{held_at, owners_in, owned, label_of}
use Rattle.label_intern.specs.Owners.{Takes}
use Rattle.label_lattice.specs.Label.{LabelValue}
use Rattle.kernel_rules.specs.State.{of_object, use_of, quota_at, own_cost, is_kind, lists_of, listed}
use Rattle.kernel_rules.specs.Changes.{listing, made, fresh_object}
use Rattle.kernel_rules.specs.Fitting.{IsFitting}
use Rattle.kernel_rules.specs.WellFormed.{is_stored}
use Rattle.kernel_rules.specs.declared.objects.Object.{Object}
use Rattle.kernel_rules.specs.declared.objects.Body.{Body}
use Rattle.kernel_rules.proofs.GrownLaws.{making_from, made_is}
use Rattle.kernel_rules.proofs.ListingLaws.{container_at}
use Rattle.kernel_rules.proofs.WellFormedLaws.{soundness_of}
use Rattle.arena_state.specs.declared.records.Record.{Record}
use Rattle.arena_state.specs.declared.pieces.Pieces.{Pieces}
use Rattle.arena_state.specs.Rows.{row_slot, Row, rows_of}
use Rattle.arena_state.specs.Assembled.{pieces_state, object_in, record_in, assembled, blank, claims, body_use, use_in, with_use}
use Rattle.arena_state.specs.Creations.{IsPlaced}
use Rattle.arena_state.specs.Sound.{IsSound}
use Rattle.arena_state.proofs.RowLaws.{row_place, seen, rows_last, seen_last}
use Rattle.arena_state.proofs.LabelLaws.{at_most_sum}
use Rattle.arena_state.proofs.SoundLaws.{row_found, object_here, slot_within}
use Rattle.arena_state.proofs.ListLaws.{by_id, rows_by_id, add_is_set, lists_grow}
use Rattle.arena_state.proofs.RecordLaws.{use_unseen, assembled_same, relisted, listed_container, same_use}
use Rattle.arena_state.proofs.UnlinkLaws.{slot_at}
use Rattle.arena_state.proofs.RoomLaws.{labels_owned, links_fit, slots_fit}

abbrev pub lookup_at : List (ℕ × List ℕ) → List ℕ → ℕ → Option Row
lookup_at lists slots i = lookup (is_at (nat_cmp i)) (rows_of lists slots)

pub all_below : (lists : List (ℕ × List ℕ)) (n k d : ℕ) → list_all (λ e. nat_lt e.0 n) lists ≡ true
    → k < length (ids_in lists) → get_or (ids_in lists) k d < n
all_below [] n k d h lt = absurd (omega arith)
all_below (e ∷ es) n zero d h lt = ltb-true e.0 n (and_parts (nat_lt e.0 n) (list_all (λ e. nat_lt e.0 n) es) h).0
all_below (e ∷ es) n (suc k) d h lt =
    all_below es n k d (and_parts (nat_lt e.0 n) (list_all (λ e. nat_lt e.0 n) es) h).1 (omega arith)

-- the pieces with other labels
abbrev pub with_labels : Pieces → List (Option Held) → Pieces
with_labels p ls = record p { holdings = record p.holdings { labels = ls } }

-- what is known of the pieces before
module _ (p : Pieces) (s : IsSound p) (d quota : ℕ) (l : LabelValue) (b : Body) (fits : IsFitting (pieces_state p) d quota b)
    (stored : is_stored l ≡ true) where
  -- the pools have room
  pub labels_fit : owned p.holdings.labels + 3 ≤ length p.holdings.labels
  labels_fit = omega (arith, labels_owned p s, slots_fit p s d quota b l fits stored, s.pool, s.tree.beside)

  pub slot_room : length (ids_in p.places.lists) < length p.places.cells
  slot_room = omega (arith, slots_fit p s d quota b l fits stored, s.cells)

  pub link_room : link_count p.places.lists < length p.places.cells
  link_room = omega (arith, links_fit p s, s.cells)

  given : list_all (λ e. nat_lt e.0 p.next_id) p.places.lists ≡ true
  given = ap (list_all (λ e. nat_lt e.0 p.next_id)) (sym s.lists) ∙ (soundness_of (pieces_state p) s.formed).given

  pub below_next : All (λ i. i < p.next_id) (ids_in p.places.lists)
  below_next k x lt = all_below p.places.lists p.next_id k x given lt

  pub same_sizes : length p.holdings.records.items ≡ length p.places.cells
  same_sizes = s.records ∙ sym s.cells

  module _ (pslot : ℕ) (at_d : HasSlot p.places d pslot) where
    pub there : has (ids_in p.places.lists) d ≡ true
    there = has_at (ids_in p.places.lists) at_d.place d at_d.within at_d.id_is

    pub use_is : body_use (record_in p.holdings.records.items pslot).body ≡ use_of (pieces_state p) d
    use_is = sym (ap (use_in p.holdings.records.items) (row_found p s d pslot at_d)
        ∙ ap (λ (x : ℕ). body_use (record_in p.holdings.records.items x).body) at_d.slot_is) ∙ s.uses d

    pub parent_within : pslot < length p.places.cells
    parent_within = omega (arith, slot_within p s d pslot at_d, same_sizes)

    pub parent_there : IsSome (record_at p.places pslot)
    parent_there = subst (λ (j : ℕ). IsSome (record_at p.places j)) at_d.slot_is
        (s.tree.there at_d.place (omega (arith, at_d.within, s.tree.beside)))

    pub enough : body_use (record_in p.holdings.records.items pslot).body + quota ≤ (record_in p.holdings.records.items pslot).quota
    enough =
        let q : (record_in p.holdings.records.items pslot).quota ≡ quota_at (pieces_state p) d
        = sym (ap (of_object 0 (λ y. y.quota)) (object_here p s d pslot at_d)) in
        omega (arith, q, use_is, fits.room)

module _ (p : Pieces) (s : IsSound p) (d quota : ℕ) (l : LabelValue) (b : Body) (fits : IsFitting (pieces_state p) d quota b)
    (stored : is_stored l ≡ true) (pslot : ℕ) (at_d : HasSlot p.places d pslot) (ls : List (Option Held)) (x : Record) (q : Pieces)
    (c : IsPlaced (with_labels p ls) q d pslot x) (takes : Takes p.holdings.labels ls (λ i. claims i x))
    (object : assembled ls x [] ≡ fresh_object l quota b) (used : body_use x.body ≡ own_cost b) where
  abbrev pub grown_lists : List (ℕ × List ℕ)
  grown_lists = add_lists p.places.lists d p.next_id

  abbrev pub parent : Record
  parent = record_in p.holdings.records.items pslot

  quota_is : x.quota ≡ quota
  quota_is = ap (λ (o : Object). o.quota) object

  pub other : (k : ℕ) → k < length p.places.slots → get_or p.places.slots k 0 ≢ c.slot
  other k lt same =
      let some : is_some (record_at p.places c.slot) ≡ true
      = subst (λ (j : ℕ). is_some (record_at p.places j) ≡ true) same (s.tree.there k lt) in
      both_ways (is_some (record_at p.places c.slot)) (ap is_some c.vacant) some

  pub apart : pslot ≢ c.slot
  apart = subst (λ (j : ℕ). j ≢ c.slot) at_d.slot_is (other at_d.place (omega (arith, at_d.within, s.tree.beside)))

  parent_in : pslot < length (set p.holdings.records.items c.slot x)
  parent_in = omega (arith, slot_within p s d pslot at_d, length-set p.holdings.records.items c.slot x)

  own : record_in (set p.holdings.records.items c.slot x) pslot ≡ parent
  own = get_or-set_other p.holdings.records.items c.slot pslot x blank apart

  -- the record of the container
  pub record_parent : record_in q.holdings.records.items pslot ≡ with_use (body_use parent.body + quota) parent
  record_parent =
      ap (λ (rs : List Record). record_in rs pslot) c.records
      ∙ get_or-set_same (set p.holdings.records.items c.slot x) pslot _ blank parent_in
      ∙ (λ i. with_use (body_use (own i).body + quota_is i) (own i))

  -- a label that had owners is what it was
  label_kept : (i : ℕ) → 0 < owners_in (held_at p.holdings.labels i)
      → label_of q.holdings.labels i ≡ label_of p.holdings.labels i
  label_kept i more = ap (λ (t : List (Option Held)). label_of t i) c.labels ∙ takes.labels i more

  -- what slots kept, they keep, but for the use of the container
  pub record_kept : (y : ℕ) → y ≢ c.slot → (n : ℕ) × (record_in q.holdings.records.items y
      ≡ with_use n (record_in p.holdings.records.items y))
  record_kept y off = elim (cases_eq y pslot) [
    | inl same ↦ (
      body_use parent.body + quota,
      ap (record_in q.holdings.records.items) same ∙ record_parent
          ∙ ap (λ (j : ℕ). with_use (body_use parent.body + quota) (record_in p.holdings.records.items j)) (sym same),
    )
    | inr far ↦ (
      body_use (record_in p.holdings.records.items y).body,
      ap (λ (rs : List Record). record_in rs y) c.records
          ∙ get_or-set_other (set p.holdings.records.items c.slot x) pslot y _ blank far
          ∙ get_or-set_other p.holdings.records.items c.slot y x blank off
          ∙ sym (λ i. record (record_in p.holdings.records.items y) {
            body = same_use (record_in p.holdings.records.items y).body i;
          }),
    )
  ]

  pub record_new : record_in q.holdings.records.items c.slot ≡ x
  record_new =
      ap (λ (rs : List Record). record_in rs c.slot) c.records
      ∙ get_or-set_other (set p.holdings.records.items c.slot x) pslot c.slot _ blank (λ (e : c.slot ≡ pslot). apart (sym e))
      ∙ get_or-set_same p.holdings.records.items c.slot x blank (omega (arith, c.within, s.cells, s.records))

  -- the object of an id with a list
  abbrev pub shape : ℕ → List ℕ → Object
  shape i list = assembled p.holdings.labels (record_in p.holdings.records.items
      (row_slot (lookup (is_at (nat_cmp i)) (rows_of p.places.lists p.places.slots)))) list

  pub slot_is : (id k : ℕ) → HasSlot p.places id k
      → row_slot (lookup (is_at (nat_cmp id)) (rows_of p.places.lists p.places.slots)) ≡ k
  slot_is id k h = ap row_slot (row_found p s id k h) ∙ h.slot_is

  pub old_objects : (pieces_state p).objects ≡ by_id shape p.places.lists
  old_objects = rows_by_id (object_in p.holdings) shape p.places.lists p.places.slots s.tree.beside
      (λ k lt. ap (λ (j : ℕ). assembled p.holdings.labels (record_in p.holdings.records.items j)
      (row_place p.places.lists p.places.slots k).list)
      (sym (slot_is (get_or (ids_in p.places.lists) k 0) (get_or p.places.slots k 0) (slot_at p.places k lt))))

  pub long : length (ids_in grown_lists) ≡ length p.places.slots
  long = ap (λ (xs : List ℕ). length xs) (ids_added p.places.lists d p.next_id) ∙ s.tree.beside

  kept_objects : seen (object_in q.holdings) (rows_of grown_lists p.places.slots) ≡ by_id shape grown_lists
  kept_objects = rows_by_id (object_in q.holdings) shape grown_lists p.places.slots long
      (λ k lt.
      let in' : k < length (ids_in p.places.lists) = omega (arith, lt, long, s.tree.beside) in
      let at : k < length p.places.slots = omega (arith, lt, long) in
      let y = get_or p.places.slots k 0 in
      let list = (row_place grown_lists p.places.slots k).list in
      let e = record_kept y (other k at) in
      ap (λ (z : Record). assembled q.holdings.labels z list) e.1
      ∙ use_unseen q.holdings.labels e.0 (record_in p.holdings.records.items y) list
      ∙ assembled_same q.holdings.labels p.holdings.labels (record_in p.holdings.records.items y) list
      (λ i more. label_kept i (owners_more i k at more))
      ∙ ap (λ (j : ℕ). assembled p.holdings.labels (record_in p.holdings.records.items j) list)
      (sym (ap (λ (i : ℕ). row_slot (lookup (is_at (nat_cmp i)) (rows_of p.places.lists p.places.slots)))
      (ap (λ (xs : List ℕ). get_or xs k 0) (ids_added p.places.lists d p.next_id))
      ∙ slot_is (get_or (ids_in p.places.lists) k 0) y (slot_at p.places k in'))))
    where
      owners_more : (i k : ℕ) → k < length p.places.slots
          → 0 < claims i (record_in p.holdings.records.items (get_or p.places.slots k 0))
          → 0 < owners_in (held_at p.holdings.labels i)
      owners_more i k at more =
          let most = at_most_sum (λ j. claims i (record_in p.holdings.records.items j)) p.places.slots k at in
          omega (arith, s.owned i, most, more)

  new_object : object_in q.holdings (record { slot = c.slot; list = [] }) ≡ fresh_object l quota b
  new_object = ap (λ (z : Record). assembled q.holdings.labels z []) record_new
      ∙ ap (λ (t : List (Option Held)). assembled t x []) c.labels ∙ object

  pub new_objects : (pieces_state q).objects
      ≡ by_id shape grown_lists ++ (p.next_id, fresh_object l quota b) ∷ []
  new_objects =
      (λ i. seen (object_in q.holdings) (rows_of (c.lists i) (c.slots i)))
      ∙ ap (seen (object_in q.holdings)) (rows_last grown_lists p.places.slots p.next_id c.slot [] long)
      ∙ seen_last (object_in q.holdings) (rows_of grown_lists p.places.slots) p.next_id (record { slot = c.slot; list = [] })
      ∙ (λ i. kept_objects i ++ (p.next_id, new_object i) ∷ [])

  -- the state is the one with the new container
  pub created_state : pieces_state q ≡ made (pieces_state p) d (fresh_object l quota b)
  created_state =
      let state = pieces_state p in
      let at = container_at state d fits.container in
      let making = making_from state d at (soundness_of state s.formed) in
      let was : at.object ≡ shape d (list_of p.places.lists d)
      = same_Some at.object (shape d (list_of p.places.lists d))
      (sym at.found ∙ object_here p s d pslot at_d
      ∙ ap (λ (j : ℕ). Some (assembled p.holdings.labels (record_in p.holdings.records.items j)
      (row_place p.places.lists p.places.slots at_d.place).list)) (sym (slot_is d pslot at_d))
      ∙ ap (λ (list : List ℕ). Some (shape d list))
      (sym (ap (list_of p.places.lists) (sym at_d.id_is)
      ∙ list_at_place p.places.lists at_d.place s.tree.rises at_d.within))) in
      let set_one : by_id shape grown_lists
      ≡ set_value (is_at (nat_cmp d)) state.objects (listing p.next_id at.object)
      = add_is_set shape p.places.lists d p.next_id s.tree.rises (there p s d quota l b fits stored pslot at_d)
      ∙ ap (set_value (is_at (nat_cmp d)) (by_id shape p.places.lists))
      (relisted p.holdings.labels (record_in p.holdings.records.items
      (row_slot (lookup (is_at (nat_cmp d)) (rows_of p.places.lists p.places.slots))))
      (list_of p.places.lists d) p.next_id ∙ ap (listing p.next_id) (sym was))
      ∙ ap (λ (es : List (ℕ × Object)). set_value (is_at (nat_cmp d)) es (listing p.next_id at.object))
      (sym old_objects) in
      (λ i. record {
        limits = c.limits i;
        objects = (new_objects ∙ ap (λ (es : List (ℕ × Object)).
            es ++ (p.next_id, fresh_object l quota b) ∷ []) set_one) i;
        next_id = c.next_id i;
        next_category = c.next_category i;
      })
      ∙ sym (made_is state d at.object (fresh_object l quota b) making)

  lists_last : (es : List (ℕ × Object)) (k : ℕ) (y : Object)
      → lists_of (es ++ (k, y) ∷ []) ≡ lists_of es ++ (k, listed y.body) ∷ []
  lists_last [] k y = refl
  lists_last (e ∷ es) k y = ap (λ (t : List (ℕ × List ℕ)). (e.0, listed e.1.body) ∷ t) (lists_last es k y)

  pub is_container : is_kind kinds.Container (assembled p.holdings.labels (record_in p.holdings.records.items pslot)
      (row_place p.places.lists p.places.slots at_d.place).list) ≡ true
  is_container = sym (ap (of_object false (is_kind kinds.Container)) (object_here p s d pslot at_d)) ∙ fits.container

  pub lists_now : lists_of (pieces_state q).objects ≡ q.places.lists
  lists_now =
      ap lists_of new_objects
      ∙ lists_last (by_id shape grown_lists) p.next_id (fresh_object l quota b)
      ∙ (λ i. lists_of (by_id shape grown_lists) ++ (p.next_id, fits.empty i) ∷ [])
      ∙ ap (λ (t : List (ℕ × List ℕ)). t ++ (p.next_id, []) ∷ [])
      (lists_grow shape d p.next_id p.places.lists
      (λ m. ap (λ (j : ℕ). listed (assembled p.holdings.labels (record_in p.holdings.records.items j) m).body)
      (slot_is d pslot at_d)
      ∙ listed_container p.holdings.labels (record_in p.holdings.records.items pslot)
      (row_place p.places.lists p.places.slots at_d.place).list m is_container)
      (ap lists_of (sym old_objects) ∙ s.lists))
      ∙ sym c.lists
