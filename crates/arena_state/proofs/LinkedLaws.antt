-- An object that a second container lists, too.
use Rattle.std.proofs.Common.{◌≡◌, ◌≢◌, ℕ, ◌+◌, ◌<◌, ◌≤◌, true, false, cond, ◌||◌, ◌==◌, List, length, get_or, set, Option, Some, None, refl, sym, ◌∙◌, ap, subst, arith, inl, inr, length-set}
use Rattle.std.specs.Ordering.{nat_cmp}
use Rattle.std.specs.Map.{set_value}
use Rattle.std.specs.BTreeMap.{is_at}
use Rattle.std.proofs.lemmas.Bool.{cases_Bool, cases_eq, and_parts, or_cases, both_ways, eqb-true, eq-eqb}
use Rattle.std.proofs.lemmas.List.{get_or-set_same, get_or-set_other}
use Rattle.base.specs.Live.{has, links}
use Rattle.base.specs.declared.kinds.Kind.TheVariants as kinds
use Rattle.containers.specs.Tree.{ids_in, list_of, add_lists, link_count, HasSlot}
use Rattle.containers.specs.WellFormed.{IsWellFormed}
use Rattle.containers.proofs.Views.{has_at}
use Rattle.containers.proofs.Lists.{ids_added, links_added}
use Rattle.label_intern.specs.declared.held.Held.{Held}
use Rattle.kernel_rules.specs.State.{State, object_at, of_object, use_of, quota_at, list_at, holds, is_kind_at, is_kind, is_fixed, lists_of, listed}
use Rattle.kernel_rules.specs.Changes.{put, changed, listing}
use Rattle.kernel_rules.specs.WellFormed.{is_well_formed}
use Rattle.kernel_rules.specs.declared.calls.Entry.{Entry}
use Rattle.kernel_rules.specs.declared.objects.Object.{Object}
use Rattle.kernel_rules.proofs.KeptLaws.{at_put}
use Rattle.kernel_rules.proofs.LinkLaws.{linked_well_formed}
use Rattle.kernel_rules.proofs.ListingLaws.{container_at, kind-listing}
use Rattle.kernel_rules.proofs.UseLaws.{listing_use}
use Rattle.arena_state.specs.declared.records.Record.{Record}
use Rattle.arena_state.specs.declared.pieces.Pieces.{Pieces}
use Rattle.arena_state.specs.Rows.{rows_of}
use Rattle.arena_state.specs.Assembled.{pieces_state, object_in, objects_in, record_in, assembled, blank, claims, body_use, with_use}
use Rattle.arena_state.specs.Sound.{IsSound}
use Rattle.arena_state.proofs.RowLaws.{row_place, seen}
use Rattle.arena_state.proofs.SoundLaws.{object_here, slot_within}
use Rattle.arena_state.proofs.ListLaws.{by_id, rows_by_id, add_is_set, lists_grow}
use Rattle.arena_state.proofs.RecordLaws.{use_unseen, use_claims, relisted, listed_container, same_use, set_use}
use Rattle.arena_state.proofs.EditLaws.{read_is, kept_use_is}
use Rattle.arena_state.proofs.RoomLaws.{links_fit}
use Rattle.arena_state.proofs.ViewLaws.{links_is}
use Rattle.arena_state.proofs.UnlinkLaws.{slot_at}
use Rattle.arena_state.proofs.ShapeLaws.{slot_of, slot_is, shape, objects_are, object_is, one_id}
use Rattle.arena_state.proofs.StayLaws.{IsRekept, had_slot, rekept_sound}

module _ (p : Pieces) (s : IsSound p) (d : ℕ) (e : Entry) (kind : is_kind_at (pieces_state p) kinds.Container d ≡ true)
    (held : holds (pieces_state p) e ≡ true) (plain : is_kind_at (pieces_state p) kinds.Container e.object ≡ false)
    (fixed : is_fixed (pieces_state p) e.object ≡ true) (fresh : has (list_at (pieces_state p) d) e.object ≡ false)
    (room : use_of (pieces_state p) d + quota_at (pieces_state p) e.object ≤ quota_at (pieces_state p) d) where
  pub not_linked : links p.places.lists d e.object ≡ false
  not_linked = links_is p s d e.object ∙ fresh

  pub not_root : e.object ≢ 1
  not_root is =
      let parts = and_parts (is_kind_at (pieces_state p) kinds.Container e.container)
      (has (list_at (pieces_state p) e.container) e.object || e.object == e.container) held in
      elim (or_cases (has (list_at (pieces_state p) e.container) e.object) (e.object == e.container) parts.1) [
        | inl listed ↦ s.tree.root_free e.container
            (subst (λ (k : ℕ). links p.places.lists e.container k ≡ true) is (links_is p s e.container e.object ∙ listed))
        | inr itself ↦ both_ways (is_kind_at (pieces_state p) kinds.Container e.object) plain
            (ap (is_kind_at (pieces_state p) kinds.Container) (eqb-true e.object e.container itself) ∙ parts.0)
      ]

  pub link_left : link_count p.places.lists < length p.places.cells
  link_left = omega (arith, links_fit p s, s.cells)

  pub no_object : object_at (pieces_state p) e.object ≡ None → ⊥
  no_object none = both_ways (is_fixed (pieces_state p) e.object) (ap (of_object false (λ x. x.fixed)) none) fixed

  pub no_container : object_at (pieces_state p) d ≡ None → ⊥
  no_container none = both_ways (is_kind_at (pieces_state p) kinds.Container d)
      (ap (of_object false (is_kind kinds.Container)) none) kind

  module _ (dslot oslot : ℕ) (at_d : HasSlot p.places d dslot) (at_o : HasSlot p.places e.object oslot) where
    pub container_listed : has (ids_in p.places.lists) d ≡ true
    container_listed = has_at (ids_in p.places.lists) at_d.place d at_d.within at_d.id_is

    pub object_listed : has (ids_in p.places.lists) e.object ≡ true
    object_listed = has_at (ids_in p.places.lists) at_o.place e.object at_o.within at_o.id_is

    quota_is : (record_in p.holdings.records.items oslot).quota ≡ quota_at (pieces_state p) e.object
    quota_is = sym (ap (of_object 0 (λ x. x.quota)) (object_here p s e.object oslot at_o))

    most_is : (record_in p.holdings.records.items dslot).quota ≡ quota_at (pieces_state p) d
    most_is = sym (ap (of_object 0 (λ x. x.quota)) (object_here p s d dslot at_d))

    module _ (n m : Record) (n_is : n ≡ get_or p.holdings.records.items oslot n) (m_is : m ≡ get_or p.holdings.records.items dslot m) where
      pages : n.quota ≡ quota_at (pieces_state p) e.object
      pages = ap (λ (r : Record). r.quota) (read_is p s e.object oslot at_o n n_is) ∙ quota_is

      own : m ≡ record_in p.holdings.records.items dslot
      own = read_is p s d dslot at_d m m_is

      pub enough : body_use m.body + n.quota ≤ m.quota
      enough =
          let a = ap (λ (r : Record). body_use r.body) own in
          let b = ap (λ (r : Record). r.quota) own in
          omega (arith, a, b, kept_use_is p s d dslot at_d, pages, most_is, room)

      module _ (q : Pieces) (limits : q.limits ≡ p.limits) (next_id : q.next_id ≡ p.next_id)
          (next_category : q.next_category ≡ p.next_category)
          (lists : q.places.lists ≡ add_lists p.places.lists d e.object) (slots : q.places.slots ≡ p.places.slots)
          (cells : length q.places.cells ≡ length p.places.cells) (tree : IsWellFormed q.places)
          (labels : q.holdings.labels ≡ p.holdings.labels) (r : Record) (r_is : r ≡ with_use (body_use m.body + n.quota) m)
          (records : q.holdings.records.items ≡ set p.holdings.records.items dslot r) where
        abbrev spent : ℕ
        spent = body_use (record_in p.holdings.records.items dslot).body + n.quota

        here : record_in q.holdings.records.items dslot ≡ with_use spent (record_in p.holdings.records.items dslot)
        here = ap (λ (rs : List Record). record_in rs dslot) records
            ∙ get_or-set_same p.holdings.records.items dslot r blank (slot_within p s d dslot at_d)
            ∙ r_is ∙ (λ i. with_use (body_use (own i).body + n.quota) (own i))

        there : (x : ℕ) → x ≢ dslot → record_in q.holdings.records.items x ≡ record_in p.holdings.records.items x
        there x off = ap (λ (rs : List Record). record_in rs x) records
            ∙ get_or-set_other p.holdings.records.items dslot x r blank off

        stays : (x : ℕ) → (k : ℕ) × (record_in q.holdings.records.items x ≡ with_use k (record_in p.holdings.records.items x))
        stays x = elim (cases_eq x dslot) [
          | inl same ↦ (
            spent,
            ap (record_in q.holdings.records.items) same ∙ here
                ∙ ap (λ (j : ℕ). with_use spent (record_in p.holdings.records.items j)) (sym same),
          )
          | inr off ↦ (
            body_use (record_in p.holdings.records.items x).body,
            there x off
                ∙ sym (λ i. record (record_in p.holdings.records.items x) {
                  body = same_use (record_in p.holdings.records.items x).body i;
                }),
          )
        ]

        ids : ids_in q.places.lists ≡ ids_in p.places.lists
        ids = ap ids_in lists ∙ ids_added p.places.lists d e.object

        long : length (ids_in (add_lists p.places.lists d e.object)) ≡ length p.places.slots
        long = ap (λ (xs : List ℕ). length xs) (ids_added p.places.lists d e.object) ∙ s.tree.beside

        rekept : IsRekept p q
        rekept = record {
          limits = limits;
          ids = ids;
          slots = slots;
          cells = cells;
          tree = tree;
          labels = labels;
          room = ap (λ (rs : List Record). length rs) records ∙ length-set p.holdings.records.items dslot r;
          claim = λ i x. ap (claims i) (stays x).1 ∙ use_claims i (stays x).0 (record_in p.holdings.records.items x);
        }

        new_objects : objects_in q.holdings (rows_of q.places.lists q.places.slots)
            ≡ by_id (shape p s) (add_lists p.places.lists d e.object)
        new_objects =
            (λ i. seen (object_in q.holdings) (rows_of (lists i) (slots i)))
            ∙ rows_by_id (object_in q.holdings) (shape p s) (add_lists p.places.lists d e.object) p.places.slots long
            (λ k lt.
            let in' : k < length (ids_in p.places.lists) = omega (arith, lt, long, s.tree.beside) in
            let y = get_or p.places.slots k 0 in
            let list = (row_place (add_lists p.places.lists d e.object) p.places.slots k).list in
            ap (λ (z : Record). assembled q.holdings.labels z list) (stays y).1
            ∙ use_unseen q.holdings.labels (stays y).0 (record_in p.holdings.records.items y) list
            ∙ ap (λ (ls : List (Option Held)). assembled ls (record_in p.holdings.records.items y) list) labels
            ∙ ap (λ (j : ℕ). assembled p.holdings.labels (record_in p.holdings.records.items j) list)
            (sym (ap (λ (xs : List ℕ). slot_of p s (get_or xs k 0)) (ids_added p.places.lists d e.object)
            ∙ slot_is p s (get_or (ids_in p.places.lists) k 0) y (slot_at p.places k in'))))

        set_objects : by_id (shape p s) (add_lists p.places.lists d e.object)
            ≡ (changed (pieces_state p) d (listing e.object)).objects
        set_objects =
            add_is_set (shape p s) p.places.lists d e.object s.tree.rises container_listed
            ∙ ap (set_value (is_at (nat_cmp d)) (by_id (shape p s) p.places.lists))
            (relisted p.holdings.labels (record_in p.holdings.records.items (slot_of p s d)) (list_of p.places.lists d) e.object)
            ∙ ap (λ (es : List (ℕ × Object)). set_value (is_at (nat_cmp d)) es (listing e.object (shape p s d (list_of p.places.lists d))))
            (sym (objects_are p s))
            ∙ sym (ap (λ (v : Option Object). (of_object (pieces_state p) (λ x. put (pieces_state p) d (listing e.object x)) v).objects)
            (object_is p s d container_listed))

        changed_rest : (v : Option Object)
            → of_object (pieces_state p) (λ x. put (pieces_state p) d (listing e.object x)) v
            ≡ record (pieces_state p) {
              objects = (of_object (pieces_state p) (λ x. put (pieces_state p) d (listing e.object x)) v).objects;
            }
        changed_rest None = refl
        changed_rest (Some x) = refl

        pub state_then : pieces_state q ≡ changed (pieces_state p) d (listing e.object)
        state_then =
            (λ i. record {
              limits = limits i;
              objects = (new_objects ∙ set_objects) i;
              next_id = next_id i;
              next_category = next_category i;
            })
            ∙ sym (changed_rest (object_at (pieces_state p) d))

        is_container : is_kind kinds.Container (assembled p.holdings.labels (record_in p.holdings.records.items dslot)
            (row_place p.places.lists p.places.slots at_d.place).list) ≡ true
        is_container = sym (ap (of_object false (is_kind kinds.Container)) (object_here p s d dslot at_d)) ∙ kind

        lists_now : lists_of (pieces_state q).objects ≡ q.places.lists
        lists_now =
            ap lists_of new_objects
            ∙ lists_grow (shape p s) d e.object p.places.lists
            (λ l. ap (λ (j : ℕ). listed (assembled p.holdings.labels (record_in p.holdings.records.items j) l).body)
            (slot_is p s d dslot at_d)
            ∙ listed_container p.holdings.labels (record_in p.holdings.records.items dslot)
            (row_place p.places.lists p.places.slots at_d.place).list l is_container)
            (ap lists_of (sym (objects_are p s)) ∙ s.lists)
            ∙ sym lists

        used : (id slot : ℕ) → HasSlot q.places id slot
            → body_use (record_in q.holdings.records.items slot).body ≡ use_of (pieces_state q) id
        used id slot h =
            let was = had_slot p q s rekept id slot h in
            let use_id = kept_use_is p s id slot was in
            let now : use_of (pieces_state q) id
            ≡ use_of (pieces_state p) id + cond (id == d) (quota_at (pieces_state p) e.object) 0
            = ap (λ (z : State). use_of z id) state_then ∙ listing_use (pieces_state p) d e.object kind id in
            elim (cases_Bool (id == d)) [
              | inl is ↦
                  let same : slot ≡ dslot
                  = sym (slot_is p s id slot was) ∙ ap (slot_of p s) (eqb-true id d is) ∙ slot_is p s d dslot at_d in
                  let kept_now : body_use (record_in q.holdings.records.items slot).body ≡ spent
                  = ap (λ (j : ℕ). body_use (record_in q.holdings.records.items j).body) same
                  ∙ ap (λ (z : Record). body_use z.body) here
                  ∙ set_use p.holdings.labels (record_in p.holdings.records.items dslot)
                  (row_place p.places.lists p.places.slots at_d.place).list spent is_container in
                  let more : cond (id == d) (quota_at (pieces_state p) e.object) 0 ≡ quota_at (pieces_state p) e.object
                  = ap {B = ℕ} (λ v. cond v (quota_at (pieces_state p) e.object) 0) is in
                  let use_d = kept_use_is p s d dslot at_d in
                  let same_use_of : use_of (pieces_state p) id ≡ use_of (pieces_state p) d = ap (use_of (pieces_state p)) (eqb-true id d is) in
                  omega (arith, kept_now, now, more, use_d, same_use_of, pages)
              | inr off ↦
                  let far : slot ≢ dslot = λ (same : slot ≡ dslot). both_ways (id == d) off
                  (eq-eqb id d (one_id p s id d dslot (subst (λ (k : ℕ). HasSlot p.places id k) same was) at_d)) in
                  let kept_now : body_use (record_in q.holdings.records.items slot).body ≡ body_use (record_in p.holdings.records.items slot).body
                  = ap (λ (z : Record). body_use z.body) (there slot far) in
                  let more : cond (id == d) (quota_at (pieces_state p) e.object) 0 ≡ 0
                  = ap {B = ℕ} (λ v. cond v (quota_at (pieces_state p) e.object) 0) off in
                  omega (arith, kept_now, now, more, use_id)
            ]

        -- what is read of objects alike, whatever they list
        read_same : {X : Type 0} (z : X) (f : Object → X) → ((x : Object) → f (listing e.object x) ≡ f x) → (b : ℕ)
            → of_object z f (object_at (pieces_state q) b) ≡ of_object z f (object_at (pieces_state p) b)
        read_same z f same b =
            let at = container_at (pieces_state p) d kind in
            ap (λ (t : State). of_object z f (object_at t b)) state_then
            ∙ ap (λ v. of_object z f (object_at (of_object (pieces_state p) (λ x. put (pieces_state p) d (listing e.object x)) v) b)) at.found
            ∙ at_put z f (pieces_state p) d b at.object (listing e.object at.object) at.found (same at.object)

        climbs : (a b : ℕ) → is_kind_at (pieces_state q) kinds.Container b ≡ true → links q.places.lists a b ≡ true → a < b
        climbs a b kind_b link =
            let was : is_kind_at (pieces_state p) kinds.Container b ≡ true
            = sym (read_same false (is_kind kinds.Container) (λ x. kind-listing x e.object) b) ∙ kind_b in
            elim (links_added p.places.lists d e.object a b (ap (λ (t : List (ℕ × List ℕ)). links t a b) (sym lists) ∙ link)) [
              | inl old ↦ s.climbs a b was old
              | inr new ↦ absurd (both_ways (is_kind_at (pieces_state p) kinds.Container e.object) plain
                  (ap (is_kind_at (pieces_state p) kinds.Container) (sym new.1) ∙ was))
            ]

        pub sound_then : IsSound q
        sound_then = rekept_sound p q s rekept
            (subst (λ (z : State). is_well_formed z ≡ true) (sym state_then)
            (linked_well_formed (pieces_state p) d e kind held plain fixed fresh room s.formed))
            lists_now used climbs (read_same 0 (λ x. x.quota) (λ x. refl) 1)
