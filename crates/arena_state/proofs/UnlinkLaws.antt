-- What is left of sound pieces once an entry is taken out.
use Rattle.std.proofs.Common.{◌≡◌, ℕ, ◌<◌, Bool, true, false, cond, List, [], ◌∷◌, length, get_or, Option, Some, None, refl, sym, ◌∙◌, ap, subst, arith, sum_by}
use Rattle.std.specs.List.{filter, Contains}
use Rattle.std.specs.Option.{option_map}
use Rattle.std.specs.Ordering.{nat_cmp}
use Rattle.std.specs.Map.{lookup, set_value}
use Rattle.std.specs.BTreeMap.{is_at}
use Rattle.std.proofs.lemmas.Bool.{and_parts}
use Rattle.std.proofs.lemmas.Map.Made.{lookup-map_values}
use Rattle.base.specs.Live.{has, is_live}
use Rattle.containers.specs.declared.visitor.Located.{Located}
use Rattle.containers.specs.Tree.{Tree, ids_in, list_of, cut_lists, HasSlot, live_part as live_lists}
use Rattle.containers.specs.Visits.{IsLost}
use Rattle.containers.specs.WellFormed.{IsWellFormed}
use Rattle.containers.proofs.Views.{at_has}
use Rattle.label_intern.specs.declared.held.Held.{Held}
use Rattle.label_intern.specs.Held.{held_at, owners_in, label_of}
use Rattle.kernel_rules.specs.State.{object_at, of_object, quota_at, lists_of, listed, live_part}
use Rattle.kernel_rules.specs.Changes.{put, changed, delisting}
use Rattle.kernel_rules.specs.Step.{restricted}
use Rattle.kernel_rules.specs.declared.objects.Object.{Object}
use Rattle.kernel_laws.proofs.Sums.{sum_same}
use Rattle.arena_state.specs.declared.records.Record.{Record}
use Rattle.arena_state.specs.declared.pieces.Pieces.{Pieces}
use Rattle.arena_state.specs.Rows.{row_slot, rows_of}
use Rattle.arena_state.specs.Assembled.{pieces_state, object_in, objects_in, record_in, assembled, claims, claims_in, with_use}
use Rattle.arena_state.specs.Deaths.{after_deaths}
use Rattle.arena_state.specs.Sound.{IsSound}
use Rattle.arena_state.proofs.RowLaws.{row_place, row_none}
use Rattle.arena_state.proofs.LabelLaws.{at_most_sum}
use Rattle.arena_state.proofs.SoundLaws.{row_found, object_row, object_here, slot_within}
use Rattle.containers.proofs.Lists.{has_filter, ids_filter, ids_cut, list_at_place}
use Rattle.label_intern.specs.Owners.{Lets}
use Rattle.arena_state.proofs.DeathLaws.{deaths_let}
use Rattle.arena_state.proofs.ListLaws.{by_id, rows_by_id, by_id_filter, cut_is_set, lists_of_by_id}
use Rattle.arena_state.proofs.RecordLaws.{use_unseen, use_claims, delisted, listed_too, assembled_same}

-- q is p once container d doesn't list o any more, and what isn't live is gone
pub record IsUnlinked (p q : Pieces) (d o : ℕ) : Type 0 where
  pub limits : q.limits ≡ p.limits
  pub next_id : q.next_id ≡ p.next_id
  pub next_category : q.next_category ≡ p.next_category
  pub there : has (ids_in p.places.lists) d ≡ true
  pub lists : q.places.lists ≡ live_lists (cut_lists p.places.lists d o)
  pub kept : (id slot : ℕ) → HasSlot q.places id slot → HasSlot p.places id slot
  pub cells : length q.places.cells ≡ length p.places.cells
  pub tree : IsWellFormed q.places
  pub dead : List Located
  pub slots : (x : Located) → Contains dead x → HasSlot p.places x.id x.slot.0
  pub lost : IsLost p.places q.places dead
  pub labels : q.holdings.labels ≡ after_deaths p.holdings.records.items dead p.holdings.labels
  pub uses : ℕ → ℕ
  pub records : (x : ℕ) → record_in q.holdings.records.items x
      ≡ with_use (uses x) (record_in p.holdings.records.items x)
  pub room : length q.holdings.records.items ≡ length p.holdings.records.items

-- at each place an id has its slot
pub slot_at : {T : Type 0} (t : Tree T) (k : ℕ) → k < length (ids_in t.lists)
    → HasSlot t (get_or (ids_in t.lists) k 0) (get_or t.slots k 0)
slot_at t k lt = record { place = k; within = lt; id_is = refl; slot_is = refl }

module _ (p q : Pieces) (s : IsSound p) (d o : ℕ) (u : IsUnlinked p q d o) where
  abbrev cut : List (ℕ × List ℕ)
  cut = cut_lists p.places.lists d o

  abbrev stays : ℕ → Bool
  stays i = is_live (cut_lists p.places.lists d o) i

  pub slot_of : ℕ → ℕ
  slot_of i = row_slot (lookup (is_at (nat_cmp i)) (rows_of p.places.lists p.places.slots))

  pub slot_is : (id slot : ℕ) → HasSlot p.places id slot → slot_of id ≡ slot
  unfolding slot_of
  slot_is id slot h = ap row_slot (row_found p s id slot h) ∙ h.slot_is

  -- the object of an id with a list
  abbrev pub shape : ℕ → List ℕ → Object
  shape i l = assembled p.holdings.labels (record_in p.holdings.records.items (slot_of i)) l

  pub ids_left : ids_in q.places.lists ≡ filter stays (ids_in p.places.lists)
  ids_left = ap ids_in u.lists ∙ ids_filter stays cut ∙ ap (filter stays) (ids_cut p.places.lists d o)

  pub left_stays : (i : ℕ) → has (ids_in q.places.lists) i ≡ true → stays i ≡ true
  left_stays i h =
      (and_parts (has (ids_in p.places.lists) i) (stays i)
      (sym (ap (λ (xs : List ℕ). has xs i) ids_left ∙ has_filter stays (ids_in p.places.lists) i) ∙ h)).1

  old_objects : objects_in p.holdings (rows_of p.places.lists p.places.slots) ≡ by_id shape p.places.lists
  old_objects = rows_by_id (object_in p.holdings) shape p.places.lists p.places.slots s.tree.beside
      (λ k lt. ap (λ (x : ℕ). assembled p.holdings.labels (record_in p.holdings.records.items x)
      (row_place p.places.lists p.places.slots k).list)
      (sym (slot_is (get_or (ids_in p.places.lists) k 0) (get_or p.places.slots k 0) (slot_at p.places k lt))))

  dead_within : (k : ℕ) (x : Located) → k < length u.dead → get_or u.dead k x ≡ x → x.slot.0 < length p.holdings.records.items
  dead_within k x lt is = slot_within p s x.id x.slot.0 (u.slots x (k, lt, is))

  pub lets : Lets p.holdings.labels q.holdings.labels
      (λ i. sum_by (λ (x : Located). claims i (record_in p.holdings.records.items x.slot.0)) u.dead)
  lets = subst (λ (l : List (Option Held)). Lets p.holdings.labels l
      (λ i. sum_by (λ (x : Located). claims i (record_in p.holdings.records.items x.slot.0)) u.dead)) (sym u.labels)
      (deaths_let p.holdings.records.items u.dead p.holdings.labels dead_within)

  claims_left : (i : ℕ) → claims_in q.holdings.records.items q.places.slots i
      ≡ claims_in p.holdings.records.items q.places.slots i
  claims_left i = sum_same
      (λ (x : ℕ). claims i (record_in q.holdings.records.items x))
      (λ (x : ℕ). claims i (record_in p.holdings.records.items x)) q.places.slots
      (λ x. ap (claims i) (u.records x) ∙ use_claims i (u.uses x) (record_in p.holdings.records.items x))

  pub owned : (i : ℕ) → owners_in (held_at q.holdings.labels i)
      ≡ claims_in q.holdings.records.items q.places.slots i
  owned i =
      let a = lets.owners i in
      let b = s.owned i in
      let c = u.lost.weighed (λ x. claims i (record_in p.holdings.records.items x)) in
      let e = claims_left i in
      omega (arith, a, b, c, e)

  -- labels that are named are the same
  label_left : (k i : ℕ) → k < length q.places.slots
      → 0 < claims i (record_in p.holdings.records.items (get_or q.places.slots k 0))
      → label_of q.holdings.labels i ≡ label_of p.holdings.labels i
  label_left k i lt more =
      let most = at_most_sum (λ x. claims i (record_in p.holdings.records.items x)) q.places.slots k lt in
      let e = claims_left i in
      lets.labels i (omega (arith, owned i, e, most, more))

  new_objects : objects_in q.holdings (rows_of q.places.lists q.places.slots) ≡ by_id shape q.places.lists
  new_objects = rows_by_id (object_in q.holdings) shape q.places.lists q.places.slots u.tree.beside
      (λ k lt.
      let slot = get_or q.places.slots k 0 in
      let list = (row_place q.places.lists q.places.slots k).list in
      ap (λ (r : Record). assembled q.holdings.labels r list) (u.records slot)
      ∙ use_unseen q.holdings.labels (u.uses slot) (record_in p.holdings.records.items slot) list
      ∙ assembled_same q.holdings.labels p.holdings.labels (record_in p.holdings.records.items slot) list
      (λ i more. label_left k i (omega (arith, lt, u.tree.beside)) more)
      ∙ ap (λ (x : ℕ). assembled p.holdings.labels (record_in p.holdings.records.items x) list)
      (sym (slot_is (get_or (ids_in q.places.lists) k 0) slot
      (u.kept (get_or (ids_in q.places.lists) k 0) slot (slot_at q.places k lt)))))

  -- the slot of an id that has a list
  pub has_slot : (i : ℕ) → has (ids_in p.places.lists) i ≡ true → (slot : ℕ) × HasSlot p.places i slot
  has_slot i h =
      let at = at_has (ids_in p.places.lists) i h in
      (get_or p.places.slots at.0 0, record { place = at.0; within = at.1; id_is = at.2; slot_is = refl })

  pub has_left : (i : ℕ) → has (ids_in q.places.lists) i ≡ true → (slot : ℕ) × HasSlot q.places i slot
  has_left i h =
      let at = at_has (ids_in q.places.lists) i h in
      (get_or q.places.slots at.0 0, record { place = at.0; within = at.1; id_is = at.2; slot_is = refl })

  pub object_was : (i : ℕ) → has (ids_in p.places.lists) i ≡ true
      → object_at (pieces_state p) i ≡ Some (shape i (list_of p.places.lists i))
  object_was i h =
      let at = has_slot i h in
      object_here p s i at.0 at.1
      ∙ ap (λ (x : ℕ). Some (assembled p.holdings.labels (record_in p.holdings.records.items x)
      (row_place p.places.lists p.places.slots at.1.place).list)) (sym (slot_is i at.0 at.1))
      ∙ ap (λ (l : List ℕ). Some (shape i l))
      (sym (ap (list_of p.places.lists) (sym at.1.id_is)
      ∙ list_at_place p.places.lists at.1.place s.tree.rises at.1.within))

  pub object_left : (i : ℕ) → has (ids_in q.places.lists) i ≡ true
      → object_at (pieces_state q) i
      ≡ Some (assembled q.holdings.labels (with_use (u.uses (slot_of i)) (record_in p.holdings.records.items (slot_of i)))
      (list_of q.places.lists i))
  object_left i h =
      let at = has_left i h in
      let same : at.0 ≡ slot_of i = sym (slot_is i at.0 (u.kept i at.0 at.1)) in
      object_row q u.tree i at.0 at.1
      ∙ ap (λ (r : Record). Some (assembled q.holdings.labels r (row_place q.places.lists q.places.slots at.1.place).list))
      (u.records at.0)
      ∙ ap (λ (x : ℕ). Some (assembled q.holdings.labels (with_use (u.uses x) (record_in p.holdings.records.items x))
      (row_place q.places.lists q.places.slots at.1.place).list)) same
      ∙ ap (λ (l : List ℕ). Some (assembled q.holdings.labels
      (with_use (u.uses (slot_of i)) (record_in p.holdings.records.items (slot_of i))) l))
      (sym (ap (list_of q.places.lists) (sym at.1.id_is)
      ∙ list_at_place q.places.lists at.1.place u.tree.rises at.1.within))

  pub object_gone : (i : ℕ) → has (ids_in q.places.lists) i ≡ false → object_at (pieces_state q) i ≡ None
  object_gone i h =
      lookup-map_values (object_in q.holdings) (is_at (nat_cmp i)) (rows_of q.places.lists q.places.slots)
      ∙ ap (option_map (object_in q.holdings)) (row_none q.places.lists q.places.slots i h)

  cut_objects : by_id shape cut ≡ (changed (pieces_state p) d (delisting o)).objects
  cut_objects =
      cut_is_set shape p.places.lists d o s.tree.rises u.there
      ∙ ap (set_value (is_at (nat_cmp d)) (by_id shape p.places.lists))
      (delisted p.holdings.labels (record_in p.holdings.records.items (slot_of d)) (list_of p.places.lists d) o)
      ∙ ap (λ (es : List (ℕ × Object)). set_value (is_at (nat_cmp d)) es (delisting o (shape d (list_of p.places.lists d))))
      (sym old_objects)
      ∙ sym (ap (λ (v : Option Object). (of_object (pieces_state p) (λ x. put (pieces_state p) d (delisting o x)) v).objects)
      (object_was d u.there))

  lists_cut : lists_of (by_id shape cut) ≡ cut
  lists_cut = lists_of_by_id shape p.places.lists d o
      (λ i l m. listed_too p.holdings.labels (record_in p.holdings.records.items (slot_of i)).body l m)
      (ap lists_of (sym old_objects) ∙ s.lists)

  left_objects : objects_in q.holdings (rows_of q.places.lists q.places.slots)
      ≡ live_part (changed (pieces_state p) d (delisting o)).objects
  unfolding live_part
  left_objects =
      new_objects ∙ ap (by_id shape) u.lists ∙ by_id_filter shape stays cut
      ∙ ap (λ (l : List (ℕ × List ℕ)). filter (λ e. is_live l e.0) (by_id shape cut)) (sym lists_cut)
      ∙ ap live_part cut_objects

  changed_rest : (v : Option Object)
      → of_object (pieces_state p) (λ x. put (pieces_state p) d (delisting o x)) v
      ≡ record (pieces_state p) {
        objects = (of_object (pieces_state p) (λ x. put (pieces_state p) d (delisting o x)) v).objects;
      }
  changed_rest None = refl
  changed_rest (Some x) = refl

  -- the state is the live part of the one without the entry
  pub unlinked_state : pieces_state q ≡ restricted (changed (pieces_state p) d (delisting o))
  unlinked_state =
      (λ i. record {
        limits = u.limits i;
        objects = left_objects i;
        next_id = u.next_id i;
        next_category = u.next_category i;
      })
      ∙ sym (ap restricted (changed_rest (object_at (pieces_state p) d)))

  pub was_there : (i : ℕ) → has (ids_in q.places.lists) i ≡ true → has (ids_in p.places.lists) i ≡ true
  was_there i h =
      (and_parts (has (ids_in p.places.lists) i) (stays i)
      (sym (ap (λ (xs : List ℕ). has xs i) ids_left ∙ has_filter stays (ids_in p.places.lists) i) ∙ h)).0

  pub quota_left : (i : ℕ) → has (ids_in q.places.lists) i ≡ true → quota_at (pieces_state q) i ≡ quota_at (pieces_state p) i
  quota_left i h =
      ap (of_object 0 (λ x. x.quota)) (object_left i h) ∙ sym (ap (of_object 0 (λ x. x.quota)) (object_was i (was_there i h)))

  pub lists_left : lists_of (pieces_state q).objects ≡ q.places.lists
  lists_left =
      ap lists_of new_objects
      ∙ ap (λ (l : List (ℕ × List ℕ)). lists_of (by_id shape l)) u.lists
      ∙ ap lists_of (by_id_filter shape stays cut)
      ∙ filter_lists (by_id shape cut)
      ∙ ap (filter (λ e. stays e.0)) lists_cut
      ∙ sym u.lists
    where
      filter_lists : (es : List (ℕ × Object)) → lists_of (filter (λ e. stays e.0) es) ≡ filter (λ e. stays e.0) (lists_of es)
      filter_lists [] = refl
      filter_lists (e ∷ es) =
          elim (stays e.0) as (λ v. lists_of (cond v (e ∷ filter (λ e. stays e.0) es) (filter (λ e. stays e.0) es))
          ≡ cond v ((e.0, listed e.1.body) ∷ filter (λ e. stays e.0) (lists_of es)) (filter (λ e. stays e.0) (lists_of es))) [
            | true ↦ ap (λ (t : List (ℕ × List ℕ)). (e.0, listed e.1.body) ∷ t) (filter_lists es)
            | false ↦ filter_lists es
          ]
