-- A record that names other labels, which were stored before the old ones were let go.
use Rattle.std.proofs.Common.{◌≡◌, ◌≢◌, ℕ, ◌+◌, ◌<◌, true, false, not, ◌==◌, List, [], length, get_or, set, Option, Some, None, refl, sym, ◌∙◌, ap, subst, arith, sum_by, inl, inr, length-set}
use Rattle.std.specs.Ordering.{nat_cmp}
use Rattle.std.specs.Map.{lookup}
use Rattle.std.specs.BTreeMap.{is_at}
use Rattle.std.specs.Vec.{with_item}
use Rattle.std.proofs.lemmas.Bool.{cases_eq, and_parts, both_ways, eq-eqb}
use Rattle.std.proofs.lemmas.List.{get_or-set_same, get_or-set_other}
use Rattle.base.specs.Live.{has}
use Rattle.base.specs.declared.kinds.Kind.TheVariants as kinds
use Rattle.containers.specs.Objects.{Apart}
use Rattle.containers.specs.Tree.{without, HasSlot}
use Rattle.containers.proofs.Distinct.{distinct_from, sum_without_one, has_without}
use Rattle.containers.proofs.Views.{has_at}
use Rattle.label_intern.specs.declared.held.Held.{Held}
use Rattle.label_intern.specs.Held.{held_at, owners_in, label_of}
use Rattle.label_intern.specs.Owners.{Takes, Lets}
use Rattle.kernel_rules.specs.State.{State, object_at, of_object, use_of, quota_at, is_kind_at, is_kind, lists_of, own_cost, listed}
use Rattle.kernel_rules.specs.Changes.{put, changed}
use Rattle.kernel_rules.specs.WellFormed.{is_well_formed}
use Rattle.kernel_rules.specs.declared.objects.Object.{Object}
use Rattle.kernel_rules.proofs.KeptLaws.{KeepsPlace, at_put}
use Rattle.kernel_rules.proofs.RecordLaws.{lists_of-set_value}
use Rattle.arena_state.specs.declared.records.Record.{Record}
use Rattle.arena_state.specs.declared.pieces.Pieces.{Pieces}
use Rattle.arena_state.specs.Rows.{Row, rows_of}
use Rattle.arena_state.specs.Assembled.{pieces_state, object_in, record_in, assembled, blank, claims, claims_in, use_in, body_use}
use Rattle.arena_state.specs.Sound.{IsSound}
use Rattle.arena_state.proofs.RowLaws.{row_place, all_but_one}
use Rattle.arena_state.proofs.LabelLaws.{at_most_sum}
use Rattle.arena_state.proofs.RecordLaws.{assembled_same, sum_same_in}
use Rattle.arena_state.proofs.SoundLaws.{object_here, slot_within, apart_at}

-- a sum of which one term changed
pub sum_changed : (f g : ℕ → ℕ) (xs : List ℕ) (k o : ℕ) → Apart xs → k < length xs → get_or xs k 0 ≡ o → ((x : ℕ) → x ≢ o → g x ≡ f x)
    → sum_by g xs + f o ≡ sum_by f xs + g o
sum_changed f g xs k o apart k_in is same =
    let there = has_at xs k o k_in is in
    let all_g = sum_without_one g o xs (distinct_from xs apart) there in
    let all_f = sum_without_one f o xs (distinct_from xs apart) there in
    let rest : sum_by g (without o xs) ≡ sum_by f (without o xs) = sum_same_in g f (without o xs) (λ x h. same x (other x h)) in
    omega (arith, all_g, all_f, rest)
  where
    other : (x : ℕ) → has (without o xs) x ≡ true → x ≢ o
    other x h e =
        let parts = and_parts (has xs x) (not (o == x)) (sym (has_without o x xs) ∙ h) in
        both_ways (not (o == x)) (ap not (eq-eqb o x (sym e))) parts.1

-- the pieces with a record in a slot, and other labels
abbrev pub with_both : Pieces → ℕ → Record → List (Option Held) → Pieces
with_both p slot r ls =
    record p { holdings = record p.holdings { records = with_item p.holdings.records slot r; labels = ls } }

module _ (p : Pieces) (s : IsSound p) (id slot : ℕ) (h : HasSlot p.places id slot) (r : Record) (mid ls : List (Option Held)) (n m : ℕ → ℕ)
    (takes : Takes p.holdings.labels mid n) (lets : Lets mid ls m)
    (balance : (i : ℕ) → claims i r + m i ≡ claims i (record_in p.holdings.records.items slot) + n i) where
  abbrev list : List ℕ
  list = (row_place p.places.lists p.places.slots h.place).list

  abbrev was : Record
  was = record_in p.holdings.records.items slot

  abbrev new_items : List Record
  new_items = set p.holdings.records.items slot r

  here : record_in new_items slot ≡ r
  here = get_or-set_same p.holdings.records.items slot r blank (slot_within p s id slot h)

  there : (x : ℕ) → x ≢ slot → record_in new_items x ≡ record_in p.holdings.records.items x
  there x off = get_or-set_other p.holdings.records.items slot x r blank off

  place_in : h.place < length p.places.slots
  place_in = omega (arith, h.within, s.tree.beside)

  pub owned_now : (i : ℕ) → owners_in (held_at ls i) ≡ claims_in new_items p.places.slots i
  owned_now i =
      let one = sum_changed (λ k. claims i (record_in p.holdings.records.items k)) (λ k. claims i (record_in new_items k)) p.places.slots h.place slot
      s.tree.apart place_in h.slot_is (λ x off. ap (claims i) (there x off)) in
      let now : claims i (record_in new_items slot) ≡ claims i r = ap (claims i) here in
      omega (arith, lets.owners i, takes.owners i, s.owned i, one, now, balance i)

  -- a label that had owners and has some is what it was
  pub label_kept : (i : ℕ) → 0 < owners_in (held_at p.holdings.labels i) → 0 < owners_in (held_at ls i)
      → label_of ls i ≡ label_of p.holdings.labels i
  label_kept i before after = lets.labels i after ∙ takes.labels i before

  -- what the record names has owners
  pub owned_here : (i : ℕ) → 0 < claims i r → 0 < owners_in (held_at ls i)
  owned_here i some =
      let most = at_most_sum (λ k. claims i (record_in new_items k)) p.places.slots h.place place_in in
      let now : claims i (record_in new_items (get_or p.places.slots h.place 0)) ≡ claims i r
      = ap (λ (k : ℕ). claims i (record_in new_items k)) h.slot_is ∙ ap (claims i) here in
      omega (arith, owned_now i, most, now)

  -- and what it named had owners
  pub owned_before : (i : ℕ) → 0 < claims i was → 0 < owners_in (held_at p.holdings.labels i)
  owned_before i some =
      let most = at_most_sum (λ k. claims i (record_in p.holdings.records.items k)) p.places.slots h.place place_in in
      let now : claims i (record_in p.holdings.records.items (get_or p.places.slots h.place 0)) ≡ claims i was
      = ap (λ (k : ℕ). claims i (record_in p.holdings.records.items k)) h.slot_is in
      omega (arith, s.owned i, most, now)

  other_object : (j : ℕ) → j < length p.places.slots → j ≢ h.place → (l : List ℕ)
      → assembled ls (record_in new_items (get_or p.places.slots j 0)) l
      ≡ assembled p.holdings.labels (record_in p.holdings.records.items (get_or p.places.slots j 0)) l
  other_object j j_in off l =
      let y = get_or p.places.slots j 0 in
      let apart : y ≢ slot = subst (λ (x : ℕ). y ≢ x) h.slot_is (apart_at p.places.slots s.tree.apart j h.place j_in place_in off) in
      ap (λ (x : Record). assembled ls x l) (there y apart)
      ∙ assembled_same ls p.holdings.labels (record_in p.holdings.records.items y) l
      (λ i some.
      let old = at_most_sum (λ k. claims i (record_in p.holdings.records.items k)) p.places.slots j j_in in
      let new = at_most_sum (λ k. claims i (record_in new_items k)) p.places.slots j j_in in
      let same : claims i (record_in new_items y) ≡ claims i (record_in p.holdings.records.items y) = ap (claims i) (there y apart) in
      label_kept i (omega (arith, s.owned i, old)) (omega (arith, owned_now i, new, same)))

  put_state : pieces_state (with_both p slot r ls) ≡ put (pieces_state p) id (assembled ls r list)
  put_state =
      let changed_one = all_but_one (object_in p.holdings) (object_in (with_both p slot r ls).holdings)
      p.places.lists p.places.slots h.place (assembled ls r list)
      s.tree.beside s.tree.rises h.within
      (ap (λ (x : ℕ). assembled ls (record_in new_items x) list) h.slot_is ∙ ap (λ (x : Record). assembled ls x list) here)
      (λ j in_j off. other_object j (omega (arith, in_j, s.tree.beside)) off (row_place p.places.lists p.places.slots j).list) in
      (λ i. record (pieces_state p) { objects = changed_one i })
      ∙ ap (λ (k : ℕ). put (pieces_state p) k (assembled ls r list)) h.id_is

  was_at : object_at (pieces_state p) id ≡ Some (assembled p.holdings.labels was list)
  was_at = object_here p s id slot h

  module _ (f : Object → Object) (object : assembled ls r list ≡ f (assembled p.holdings.labels was list))
      (keeps : (x : Object) → KeepsPlace x (f x)) (used : body_use r.body ≡ body_use was.body)
      (formed : is_well_formed (changed (pieces_state p) id f) ≡ true) where
    pub rebound_state : pieces_state (with_both p slot r ls) ≡ changed (pieces_state p) id f
    rebound_state =
        put_state ∙ ap (put (pieces_state p) id) object
        ∙ sym (ap (of_object (pieces_state p) (λ x. put (pieces_state p) id (f x))) was_at)

    k : KeepsPlace (assembled p.holdings.labels was list) (assembled ls r list)
    k = subst (λ (x : Object). KeepsPlace (assembled p.holdings.labels was list) x) (sym object) (keeps (assembled p.holdings.labels was list))

    use_at : (x : ℕ) → body_use (record_in new_items x).body ≡ body_use (record_in p.holdings.records.items x).body
    use_at x = elim (cases_eq x slot) as (λ _. body_use (record_in new_items x).body ≡ body_use (record_in p.holdings.records.items x).body) [
      | inl is ↦
          subst (λ (y : ℕ). body_use (record_in new_items y).body ≡ body_use (record_in p.holdings.records.items y).body) (sym is)
          (ap (λ (y : Record). body_use y.body) here ∙ used)
      | inr off ↦ ap (λ (y : Record). body_use y.body) (there x off)
    ]

    use_in_same : (row : Option Row) → use_in new_items row ≡ use_in p.holdings.records.items row
    use_in_same None = refl
    use_in_same (Some row) = use_at row.slot

    use_put : (o : ℕ) → use_of (put (pieces_state p) id (assembled ls r list)) o ≡ use_of (pieces_state p) o
    use_put o =
        λ i. at_put 0 (λ z. own_cost z.body) (pieces_state p) id o (assembled p.holdings.labels was list) (assembled ls r list) was_at k.cost i
        + sum_by (λ j. at_put 0 (λ z. z.quota) (pieces_state p) id j (assembled p.holdings.labels was list) (assembled ls r list) was_at k.quota i)
        (at_put [] (λ z. listed z.body) (pieces_state p) id o (assembled p.holdings.labels was list) (assembled ls r list) was_at k.list i)

    pub rebound_sound : IsSound (with_both p slot r ls)
    rebound_sound = record {
      formed = subst (λ (x : State). is_well_formed x ≡ true) (sym rebound_state) formed;
      tree = s.tree;
      lists = ap (λ (x : State). lists_of x.objects) put_state
          ∙ lists_of-set_value id (pieces_state p).objects (assembled p.holdings.labels was list) (assembled ls r list) was_at k.list
          ∙ s.lists;
      owned = owned_now;
      uses = λ o. use_in_same (lookup (is_at (nat_cmp o)) (rows_of p.places.lists p.places.slots))
          ∙ s.uses o ∙ sym (ap (λ (x : State). use_of x o) put_state ∙ use_put o);
      climbs = λ a b is_container link. s.climbs a b
          (sym (at_put false (is_kind kinds.Container) (pieces_state p) id b (assembled p.holdings.labels was list) (assembled ls r list) was_at k.kind)
          ∙ sym (ap (λ (x : State). is_kind_at x kinds.Container b) put_state) ∙ is_container) link;
      cells = s.cells;
      records = length-set p.holdings.records.items slot r ∙ s.records;
      pool = lets.pool ∙ takes.pool ∙ s.pool;
      rooted = s.rooted;
      root = ap (λ (x : State). quota_at x 1) put_state
          ∙ at_put 0 (λ z. z.quota) (pieces_state p) id 1 (assembled p.holdings.labels was list) (assembled ls r list) was_at k.quota
          ∙ s.root;
    }
