-- A new object among sound pieces: they stay sound.
use Rattle.std.proofs.Common.{◌≡◌, ◌≢◌, ℕ, ◌+◌, ◌*◌, ◌<◌, Bool, true, false, cond, ◌==◌, List, [], length, get_or, set, Option, Some, None, is_some, refl, sym, ◌∙◌, ap, subst, arith, sum_by, inl, inr, length-set}
use Rattle.std.specs.List.{list_all}
use Rattle.std.specs.Ordering.{nat_cmp}
use Rattle.std.specs.Map.{lookup}
use Rattle.std.specs.BTreeMap.{is_at}
use Rattle.std.proofs.lemmas.Bool.{cases_Bool, cases_eq, both_ways, eqb-true, eq-eqb}
use Rattle.std.proofs.lemmas.List.{get_or-set_other}
use Rattle.std.proofs.lemmas.List.Sums.{sum_by_push}
use Rattle.base.specs.Live.{has, links}
use Rattle.base.specs.declared.kinds.Kind.TheVariants as kinds
use Rattle.base.specs.declared.ranges.Limits.{Limits}
use Rattle.containers.specs.Objects.{Rises}
use Rattle.containers.specs.Tree.{ids_in, add_lists, HasSlot}
use Rattle.containers.proofs.Views.{at_has}
use Rattle.containers.proofs.Lists.{ids_added, links_last, has_first, links_added}
use Rattle.label_intern.specs.declared.held.Held.{Held}
use Rattle.label_intern.specs.Held.{held_at, owners_in}
use Rattle.label_intern.specs.Owners.{Takes}
use Rattle.label_lattice.specs.Label.{LabelValue}
use Rattle.kernel_rules.specs.State.{State, object_at, of_object, use_of, quota_at, cost_at, list_at, own_cost, is_kind_at, is_kind, listed}
use Rattle.kernel_rules.specs.Changes.{listing, fresh_object}
use Rattle.kernel_rules.specs.Fitting.{IsFitting}
use Rattle.kernel_rules.specs.WellFormed.{is_stored, is_well_formed, is_kept}
use Rattle.kernel_rules.specs.declared.objects.Object.{Object}
use Rattle.kernel_rules.specs.declared.objects.Body.{Body}
use Rattle.kernel_rules.proofs.GrownLaws.{Making, making_from, made_is, grown, grown_other, use_other, use_here, use_new}
use Rattle.kernel_rules.proofs.ListerLaws.{kept_parts}
use Rattle.kernel_rules.proofs.LookupLaws.{all_at, at_is}
use Rattle.kernel_rules.proofs.MadeLaws.{made_well_formed}
use Rattle.kernel_rules.proofs.ListingLaws.{container_at}
use Rattle.kernel_rules.proofs.WellFormedLaws.{soundness_of}
use Rattle.arena_state.specs.declared.records.Record.{Record}
use Rattle.arena_state.specs.declared.pieces.Pieces.{Pieces}
use Rattle.arena_state.specs.Rows.{row_slot, rows_of}
use Rattle.arena_state.specs.Assembled.{pieces_state, record_in, assembled, blank, claims, claims_in, body_use, use_in}
use Rattle.arena_state.specs.Creations.{IsPlaced}
use Rattle.arena_state.specs.Sound.{IsSound}
use Rattle.arena_state.proofs.RowLaws.{row_place, row_at, row_none, rows_last, found_last, other_last}
use Rattle.arena_state.proofs.SoundLaws.{row_found, object_here, object_none, apart_at}
use Rattle.arena_state.proofs.ListLaws.{sum_places}
use Rattle.arena_state.proofs.RecordLaws.{use_claims, set_use}
use Rattle.arena_state.proofs.CreateLaws.{lookup_at, with_labels, below_next, there, use_is, other, record_kept, record_new, record_parent, created_state, long, lists_now, slot_is, is_container}

module _ (p : Pieces) (s : IsSound p) (d quota : ℕ) (l : LabelValue) (b : Body) (fits : IsFitting (pieces_state p) d quota b)
    (stored : is_stored l ≡ true) (pslot : ℕ) (at_d : HasSlot p.places d pslot) (ls : List (Option Held)) (x : Record) (q : Pieces)
    (c : IsPlaced (with_labels p ls) q d pslot x) (takes : Takes p.holdings.labels ls (λ i. claims i x))
    (object : assembled ls x [] ≡ fresh_object l quota b) (used : body_use x.body ≡ own_cost b) where
  pub owned_now : (i : ℕ) → owners_in (held_at q.holdings.labels i)
      ≡ claims_in q.holdings.records.items q.places.slots i
  owned_now i =
      let all : claims_in q.holdings.records.items q.places.slots i
      ≡ sum_by (λ j. claims i (record_in q.holdings.records.items j)) p.places.slots
      + claims i (record_in q.holdings.records.items c.slot)
      = ap (sum_by (λ j. claims i (record_in q.holdings.records.items j))) c.slots
      ∙ sum_by_push (λ j. claims i (record_in q.holdings.records.items j)) p.places.slots c.slot in
      let kept_same : sum_by (λ j. claims i (record_in q.holdings.records.items j)) p.places.slots
      ≡ sum_by (λ j. claims i (record_in p.holdings.records.items j)) p.places.slots
      = sum_places (λ j. claims i (record_in q.holdings.records.items j))
      (λ j. claims i (record_in p.holdings.records.items j)) p.places.slots p.places.slots refl
      (λ k lt.
      let e = (record_kept p s d quota l b fits stored pslot at_d ls x q c takes object used) (get_or p.places.slots k 0) ((other p s d quota l b fits stored pslot at_d ls x q c takes object used) k lt) in
      ap (claims i) e.1 ∙ use_claims i e.0 (record_in p.holdings.records.items (get_or p.places.slots k 0))) in
      let new : claims i (record_in q.holdings.records.items c.slot) ≡ claims i x
      = ap (claims i) (record_new p s d quota l b fits stored pslot at_d ls x q c takes object used) in
      let was = s.owned i in
      let now : owners_in (held_at q.holdings.labels i) ≡ owners_in (held_at p.holdings.labels i) + claims i x
      = ap (λ (t : List (Option Held)). owners_in (held_at t i)) c.labels ∙ takes.owners i in
      omega (arith, all, kept_same, new, was, now)

  -- the state, as it grew
  abbrev state : State
  state = pieces_state p

  pub y : Object
  y = (container_at (pieces_state p) d fits.container).object

  making : Making (pieces_state p) d y
  unfolding y
  making = making_from (pieces_state p) d (container_at (pieces_state p) d fits.container)
      (soundness_of (pieces_state p) s.formed)

  abbrev new : Object
  new = fresh_object l quota b

  grew : pieces_state q ≡ grown (pieces_state p) d y new
  unfolding y
  grew = (created_state p s d quota l b fits stored pslot at_d ls x q c takes object used) ∙ made_is (pieces_state p) d (container_at (pieces_state p) d fits.container).object new making

  old_id : (i : ℕ) → has (ids_in p.places.lists) i ≡ true → i < p.next_id
  old_id i h =
      let at = at_has (ids_in p.places.lists) i h in
      let less = below_next p s d quota l b fits stored at.0 0 at.1 in
      omega (arith, less, at.2)

  next_new : has (ids_in p.places.lists) p.next_id ≡ false
  next_new = elim (cases_Bool (has (ids_in p.places.lists) p.next_id)) [
    | inl h ↦ let less = old_id p.next_id h in absurd (omega (arith, less))
    | inr off ↦ off
  ]

  pub row_now : lookup_at q.places.lists q.places.slots p.next_id
      ≡ Some (record { slot = c.slot; list = [] })
  row_now =
      (λ i. lookup (is_at (nat_cmp p.next_id)) (rows_of (c.lists i) (c.slots i)))
      ∙ ap (lookup (is_at (nat_cmp p.next_id))) (rows_last (add_lists p.places.lists d p.next_id) p.places.slots p.next_id c.slot [] (long p s d quota l b fits stored pslot at_d ls x q c takes object used))
      ∙ found_last (rows_of (add_lists p.places.lists d p.next_id) p.places.slots) p.next_id (record { slot = c.slot; list = [] })
      (row_none (add_lists p.places.lists d p.next_id) p.places.slots p.next_id
      (ap (λ (xs : List ℕ). has xs p.next_id) (ids_added p.places.lists d p.next_id) ∙ next_new))

  pub row_then : (i : ℕ) → (i == p.next_id) ≡ false
      → lookup_at q.places.lists q.places.slots i ≡ lookup_at (add_lists p.places.lists d p.next_id) p.places.slots i
  row_then i off =
      (λ j. lookup (is_at (nat_cmp i)) (rows_of (c.lists j) (c.slots j)))
      ∙ ap (lookup (is_at (nat_cmp i))) (rows_last (add_lists p.places.lists d p.next_id) p.places.slots p.next_id c.slot [] (long p s d quota l b fits stored pslot at_d ls x q c takes object used))
      ∙ other_last (rows_of (add_lists p.places.lists d p.next_id) p.places.slots) i p.next_id (record { slot = c.slot; list = [] }) off

  use_old : (i : ℕ) → (i == p.next_id) ≡ false → has (ids_in p.places.lists) i ≡ true
      → use_in q.holdings.records.items (lookup_at q.places.lists q.places.slots i) ≡ use_of (pieces_state q) i
  use_old i new_off h =
      let at = at_has (ids_in p.places.lists) i h in
      let k = get_or p.places.slots at.0 0 in
      let has_i : HasSlot p.places i k = record { place = at.0; within = at.1; id_is = at.2; slot_is = refl } in
      let in_slots : at.0 < length p.places.slots = omega (arith, at.1, s.tree.beside) in
      let row : lookup_at (add_lists p.places.lists d p.next_id) p.places.slots i ≡ Some (row_place (add_lists p.places.lists d p.next_id) p.places.slots at.0)
      = subst (λ (j : ℕ). lookup_at (add_lists p.places.lists d p.next_id) p.places.slots j ≡ Some (row_place (add_lists p.places.lists d p.next_id) p.places.slots at.0))
      (ap (λ (xs : List ℕ). get_or xs at.0 0) (ids_added p.places.lists d p.next_id) ∙ at.2)
      (row_at (add_lists p.places.lists d p.next_id) p.places.slots at.0 (long p s d quota l b fits stored pslot at_d ls x q c takes object used)
      (subst (λ (xs : List ℕ). Rises xs) (sym (ids_added p.places.lists d p.next_id)) s.tree.rises)
      (omega (arith, in_slots, (long p s d quota l b fits stored pslot at_d ls x q c takes object used)))) in
      let kept_use : use_in q.holdings.records.items (lookup_at q.places.lists q.places.slots i)
      ≡ body_use (record_in q.holdings.records.items k).body
      = ap (use_in q.holdings.records.items) (row_then i new_off ∙ row) in
      let was_use : body_use (record_in p.holdings.records.items k).body ≡ use_of (pieces_state p) i
      = sym (ap (use_in p.holdings.records.items) (row_found p s i k has_i)) ∙ s.uses i in
      let found = object_here p s i k has_i in
      elim (cases_Bool (i == d)) [
        | inl is ↦
            let same : i ≡ d = eqb-true i d is in
            let slot_same : k ≡ pslot = sym ((slot_is p s d quota l b fits stored pslot at_d ls x q c takes object used) i k has_i)
            ∙ ap (λ (j : ℕ). row_slot (lookup_at p.places.lists p.places.slots j)) same ∙ (slot_is p s d quota l b fits stored pslot at_d ls x q c takes object used) d pslot at_d in
            let m = body_use (record_in p.holdings.records.items pslot).body in
            let now : body_use (record_in q.holdings.records.items k).body ≡ m + quota
            = ap (λ (j : ℕ). body_use (record_in q.holdings.records.items j).body) slot_same
            ∙ ap (λ (z : Record). body_use z.body) (record_parent p s d quota l b fits stored pslot at_d ls x q c takes object used)
            ∙ set_use p.holdings.labels (record_in p.holdings.records.items pslot)
            (row_place p.places.lists p.places.slots at_d.place).list (m + quota) (is_container p s d quota l b fits stored pslot at_d ls x q c takes object used) in
            let use_d = use_is p s d quota l b fits stored pslot at_d in
            let then : use_of (pieces_state q) i ≡ use_of (pieces_state p) d + quota
            = ap (use_of (pieces_state q)) same ∙ ap (λ (z : State). use_of z d) grew
            ∙ use_here (pieces_state p) d y new making (recorded d y making.found) in
            omega (arith, kept_use, now, use_d, then)
        | inr off ↦
            let far : k ≢ pslot = λ (e : k ≡ pslot). both_ways (i == d) off (eq-eqb i d (one_slot i k has_i e)) in
            let now : body_use (record_in q.holdings.records.items k).body ≡ body_use (record_in p.holdings.records.items k).body
            = ap (λ (rs : List Record). body_use (record_in rs k).body) c.records
            ∙ ap (λ (z : Record). body_use z.body)
            (get_or-set_other (set p.holdings.records.items c.slot x) pslot k _ blank far
            ∙ get_or-set_other p.holdings.records.items c.slot k x blank ((other p s d quota l b fits stored pslot at_d ls x q c takes object used) at.0 in_slots)) in
            let then : use_of (pieces_state q) i ≡ use_of (pieces_state p) i
            = ap (λ (z : State). use_of z i) grew
            ∙ use_other (pieces_state p) d y new making i _ found (at_is i d ∙ off) (recorded i _ found) in
            omega (arith, kept_use, now, was_use, then)
      ]
    where
      recorded : (o : ℕ) (z : Object) → object_at (pieces_state p) o ≡ Some z
          → list_all (λ j. is_some (object_at (pieces_state p) j)) (listed z.body) ≡ true
      recorded o z found =
          (kept_parts (pieces_state p) o z (all_at (λ j w. is_kept (pieces_state p) j w) (pieces_state p).objects o z
          (soundness_of (pieces_state p) s.formed).kept found)).recorded

      one_slot : (i k : ℕ) → HasSlot p.places i k → k ≡ pslot → i ≡ d
      one_slot i k h same = elim (cases_eq h.place at_d.place) [
        | inl e ↦ sym h.id_is ∙ ap (λ (j : ℕ). get_or (ids_in p.places.lists) j 0) e ∙ at_d.id_is
        | inr off ↦ absurd (apart_at p.places.slots s.tree.apart h.place at_d.place
            (omega (arith, h.within, s.tree.beside)) (omega (arith, at_d.within, s.tree.beside)) off
            (h.slot_is ∙ same ∙ sym at_d.slot_is))
      ]

  pub not_d : (i : ℕ) → has (ids_in p.places.lists) i ≡ false → (i == d) ≡ false
  not_d i gone = elim (cases_Bool (i == d)) [
    | inl is ↦ absurd (both_ways (has (ids_in p.places.lists) i) gone
        (ap (has (ids_in p.places.lists)) (eqb-true i d is) ∙ there p s d quota l b fits stored pslot at_d))
    | inr off ↦ off
  ]

  pub object_then : (i : ℕ) → (i == p.next_id) ≡ false
      → object_at (pieces_state q) i ≡ cond (i == d) (Some (listing p.next_id y)) (object_at (pieces_state p) i)
  object_then i off =
      ap (λ (z : State). object_at z i) grew
      ∙ grown_other (pieces_state p) d y new making i (λ (e : i ≡ p.next_id). both_ways (i == p.next_id) off (eq-eqb i p.next_id e))
      ∙ ap (λ (v : Bool). cond v (Some (listing p.next_id y)) (object_at (pieces_state p) i)) (at_is i d)

  use_gone : (i : ℕ) → (i == p.next_id) ≡ false → has (ids_in p.places.lists) i ≡ false
      → use_in q.holdings.records.items (lookup_at q.places.lists q.places.slots i) ≡ use_of (pieces_state q) i
  use_gone i new_off gone =
      let none : object_at (pieces_state q) i ≡ None
      = object_then i new_off
      ∙ ap (λ (v : Bool). cond v (Some (listing p.next_id y)) (object_at (pieces_state p) i)) (not_d i gone)
      ∙ object_none p s i gone in
      let cost : cost_at (pieces_state q) i ≡ 0 = ap (of_object 0 (λ z. own_cost z.body)) none in
      let list : list_at (pieces_state q) i ≡ [] = ap (of_object [] (λ z. listed z.body)) none in
      let sum : sum_by (quota_at (pieces_state q)) (list_at (pieces_state q) i) ≡ 0
      = ap (sum_by (quota_at (pieces_state q))) list in
      let left : use_in q.holdings.records.items (lookup_at q.places.lists q.places.slots i) ≡ 0
      = ap (use_in q.holdings.records.items) (row_then i new_off
      ∙ row_none (add_lists p.places.lists d p.next_id) p.places.slots i (ap (λ (xs : List ℕ). has xs i) (ids_added p.places.lists d p.next_id) ∙ gone)) in
      omega (arith, cost, sum, left)

  uses_now : (i : ℕ) → use_in q.holdings.records.items (lookup_at q.places.lists q.places.slots i)
      ≡ use_of (pieces_state q) i
  uses_now i = elim (cases_Bool (i == p.next_id)) [
    | inl is ↦
        let same : i ≡ p.next_id = eqb-true i p.next_id is in
        let now : use_in q.holdings.records.items (lookup_at q.places.lists q.places.slots i) ≡ own_cost b
        = ap (λ (j : ℕ). use_in q.holdings.records.items (lookup_at q.places.lists q.places.slots j)) same
        ∙ ap (use_in q.holdings.records.items) row_now
        ∙ ap (λ (z : Record). body_use z.body) (record_new p s d quota l b fits stored pslot at_d ls x q c takes object used) ∙ used in
        let then : use_of (pieces_state q) i ≡ own_cost b
        = ap (use_of (pieces_state q)) same ∙ ap (λ (z : State). use_of z p.next_id) grew
        ∙ use_new (pieces_state p) d y new making fits.empty in
        now ∙ sym then
    | inr off ↦ elim (cases_Bool (has (ids_in p.places.lists) i)) [
      | inl h ↦ use_old i off h
      | inr gone ↦ use_gone i off gone
    ]
  ]

  climbs_now : (a o : ℕ) → is_kind_at (pieces_state q) kinds.Container o ≡ true → links q.places.lists a o ≡ true → a < o
  climbs_now a o kind link =
      let grown_link : links (add_lists p.places.lists d p.next_id) a o ≡ true
      = links_last (add_lists p.places.lists d p.next_id) p.next_id a o (ap (λ (t : List (ℕ × List ℕ)). links t a o) (sym c.lists) ∙ link) in
      elim (links_added p.places.lists d p.next_id a o grown_link) [
        | inl old ↦
            let listed_b = s.tree.listed a o old in
            let less = old_id o listed_b in
            let off : (o == p.next_id) ≡ false = elim (cases_Bool (o == p.next_id)) [
              | inl is ↦ let e = eqb-true o p.next_id is in absurd (omega (arith, less, e))
              | inr off ↦ off
            ] in
            s.climbs a o (elim (cases_Bool (o == d)) [
              | inl is ↦ ap (is_kind_at (pieces_state p) kinds.Container) (eqb-true o d is) ∙ fits.container
              | inr other_b ↦
                  sym (ap (of_object false (is_kind kinds.Container)) (object_then o off
                  ∙ ap (λ (v : Bool). cond v (Some (listing p.next_id y)) (object_at (pieces_state p) o)) other_b)) ∙ kind
            ]) old
        | inr new_link ↦
            let less = old_id d (there p s d quota l b fits stored pslot at_d) in
            omega (arith, less, new_link.0, new_link.1)
      ]

  pub created_sound : IsSound q
  created_sound = record {
    formed = subst (λ (z : State). is_well_formed z ≡ true) (sym (created_state p s d quota l b fits stored pslot at_d ls x q c takes object used))
        (made_well_formed (pieces_state p) d l quota b fits stored s.formed);
    tree = c.tree;
    lists = (lists_now p s d quota l b fits stored pslot at_d ls x q c takes object used);
    owned = owned_now;
    uses = uses_now;
    climbs = climbs_now;
    cells = c.cells ∙ s.cells ∙ ap (λ (z : Limits). z.pages) (sym c.limits);
    records = ap (λ (rs : List Record). length rs) c.records
        ∙ length-set (set p.holdings.records.items c.slot x) pslot _
        ∙ length-set p.holdings.records.items c.slot x ∙ s.records ∙ ap (λ (z : Limits). z.pages) (sym c.limits);
    pool = ap (λ (t : List (Option Held)). length t) c.labels ∙ takes.pool
        ∙ s.pool ∙ ap (λ (z : Limits). 3 * z.pages + 3) (sym c.limits);
    rooted = rooted;
    root = root;
  }
    where
      rooted : has (ids_in q.places.lists) 1 ≡ true
      rooted = ap (λ (t : List (ℕ × List ℕ)). has (ids_in t) 1) c.lists
          ∙ has_first (add_lists p.places.lists d p.next_id) p.next_id 1
          (ap (λ (xs : List ℕ). has xs 1) (ids_added p.places.lists d p.next_id) ∙ s.rooted)

      one_old : (1 == p.next_id) ≡ false
      one_old = elim (cases_Bool (1 == p.next_id)) [
        | inl is ↦
            let less = old_id 1 s.rooted in
            let e = eqb-true 1 p.next_id is in
            absurd (omega (arith, less, e))
        | inr off ↦ off
      ]

      root : quota_at (pieces_state q) 1 ≡ q.limits.pages
      root =
          ap (of_object 0 (λ z. z.quota)) (object_then 1 one_old)
          ∙ elim (cases_Bool (1 == d)) [
            | inl is ↦
                ap (λ (v : Bool). of_object 0 (λ z. z.quota) (cond v (Some (listing p.next_id y)) (object_at (pieces_state p) 1))) is
                ∙ sym (ap (of_object 0 (λ z. z.quota)) making.found)
                ∙ ap (quota_at (pieces_state p)) (sym (eqb-true 1 d is))
            | inr off ↦
                ap (λ (v : Bool). of_object 0 (λ z. z.quota) (cond v (Some (listing p.next_id y)) (object_at (pieces_state p) 1))) off
          ]
          ∙ s.root ∙ ap (λ (z : Limits). z.pages) (sym c.limits)
