-- The steps by which an entry is taken out.
use Rattle.std.proofs.Common.{◌≡◌, ℕ, ◌+◌, ◌-◌, ◌<◌, ◌≤◌, Bool, true, false, cond, ◌==◌, List, [], length, get_or, set, Option, Some, None, refl, sym, ◌∙◌, ap, subst, arith, inl, inr, length-set}
use Rattle.std.specs.Prelude.{vec_len}
use Rattle.std.specs.Global.{Vec}
use Rattle.std.proofs.lemmas.Bool.{cases_Bool, cases_eq, both_ways, eqb-true, eq-eqb}
use Rattle.std.proofs.lemmas.List.{get_or-set_same, get_or-set_other, get_or_read}
use Rattle.std.proofs.lemmas.Option.{none-some}
use Rattle.base.specs.Live.{has, links}
use Rattle.base.specs.declared.kinds.Kind.TheVariants as kinds
use Rattle.containers.specs.declared.visitor.Located.{Located}
use Rattle.containers.specs.Tree.{ids_in, list_of, cut_lists, HasSlot, live_part as live_lists}
use Rattle.containers.specs.Visits.{IsHanded, IsTold, IsLost}
use Rattle.containers.specs.WellFormed.{IsWellFormed}
use Rattle.containers.proofs.Lists.{links_of_list, links_has, list_of_links}
use Rattle.containers.proofs.Views.{at_has}
use Rattle.kernel_rules.specs.State.{object_at, of_object, use_of, quota_at, list_at, is_kind, listed}
use Rattle.kernel_rules.specs.Changes.{changed, delisting}
use Rattle.kernel_rules.specs.Step.{restricted}
use Rattle.kernel_rules.specs.declared.objects.Object.{Object}
use Rattle.kernel_rules.specs.declared.objects.Body as body
use Rattle.kernel_rules.specs.declared.objects.Body.TheVariants as is
use Rattle.kernel_rules.proofs.MoveLaws.{quota_listed}
use Rattle.arena_state.specs.declared.holdings.Holdings.{Holdings}
use Rattle.arena_state.specs.declared.records.Record.{Record}
use Rattle.arena_state.specs.declared.pieces.Pieces.{Pieces}
use Rattle.arena_state.specs.Assembled.{pieces_state, assembled, record_in, blank, use_in, body_use, with_use}
use Rattle.arena_state.specs.Sound.{IsSound}
use Rattle.arena_state.proofs.SoundLaws.{row_found, object_here, slot_within, apart_at}
use Rattle.arena_state.proofs.DeathLaws.{Linked, Died, IsGone, told}
use Rattle.arena_state.proofs.RecordLaws.{same_use, set_use}
use Rattle.arena_state.proofs.UnlinkLaws.{IsUnlinked, slot_of, slot_is, has_left, unlinked_state}
use Rattle.arena_state.proofs.LeftLaws.{list_of_objects, unlinked_sound, freed}

lists_container : (b : body.Body) (x : Object) (o : ℕ) → has (listed b) o ≡ true
    → is_kind kinds.Container (record x { body = b }) ≡ true
lists_container (is.Container avoid list) x o h = refl
lists_container (is.Segment bytes) x o h = absurd (both_ways false refl h)
lists_container (is.AddressSpace slots) x o h = absurd (both_ways false refl h)
lists_container (is.Thread t) x o h = absurd (both_ways false refl h)
lists_container (is.Gate g) x o h = absurd (both_ways false refl h)
lists_container (is.Device packets) x o h = absurd (both_ways false refl h)

pub container_of : (v : Option Object) (o : ℕ) → has (of_object [] (λ x. listed x.body) v) o ≡ true
    → of_object false (is_kind kinds.Container) v ≡ true
container_of None o h = absurd (both_ways false refl h)
container_of (Some x) o h = lists_container x.body x o h

module _ (p : Pieces) (s : IsSound p) where
  list_is : (i : ℕ) → list_at (pieces_state p) i ≡ list_of p.places.lists i
  list_is i = sym (list_of_objects (pieces_state p).objects i) ∙ ap (λ (l : List (ℕ × List ℕ)). list_of l i) s.lists

  pub rises : (a b c : ℕ) → links p.places.lists a b ≡ true → links p.places.lists b c ≡ true → a < b
  rises a b c first second =
      s.climbs a b
      (container_of (object_at (pieces_state p) b) c
      (ap (λ (l : List ℕ). has l c) (list_is b) ∙ list_of_links p.places.lists b c s.tree.rises second)) first

  module _ (d o : ℕ) (listed_now : has (list_at (pieces_state p) d) o ≡ true) where
    pub holds_list : has (list_of p.places.lists d) o ≡ true
    holds_list = ap (λ (l : List ℕ). has l o) (sym (list_is d)) ∙ listed_now

    pub is_linked : links p.places.lists d o ≡ true
    is_linked = links_of_list p.places.lists d o holds_list

    pub object_there : object_at (pieces_state p) o ≡ None → ⊥
    object_there none =
        let there = s.tree.listed d o is_linked in
        let at = at_has (ids_in p.places.lists) o there in
        let found = object_here p s o (get_or p.places.slots at.0 0)
        (record { place = at.0; within = at.1; id_is = at.2; slot_is = refl }) in
        none-some _ (sym none ∙ found)

    module _ (dslot oslot : ℕ) (at_d : HasSlot p.places d dslot) (at_o : HasSlot p.places o oslot)
        (w : Holdings) (went : List (Located × Located)) (dead : List Located)
        (tells : IsTold Linked Died p.holdings w went dead) where
      pub held_is : IsGone p.holdings dead w
      held_is = subst (λ (ps : List Located). IsGone p.holdings ps w) tells.objects_are (told p.holdings tells.events w tells.follows)

      pub container_within : dslot < vec_len w.records
      container_within = subst (λ (rs : Vec Record). dslot < vec_len rs) (sym held_is.records)
          (omega (arith, slot_within p s d dslot at_d, p.holdings.records.ok.0))

      records_are : w.records.items ≡ p.holdings.records.items
      records_are = ap (λ (rs : Vec Record). rs.items) held_is.records

      use_is : body_use (record_in p.holdings.records.items dslot).body ≡ use_of (pieces_state p) d
      use_is = sym (ap (use_in p.holdings.records.items) (row_found p s d dslot at_d)
          ∙ ap (λ (x : ℕ). body_use (record_in p.holdings.records.items x).body) at_d.slot_is) ∙ s.uses d

      quota_is : (record_in p.holdings.records.items oslot).quota ≡ quota_at (pieces_state p) o
      quota_is = sym (ap (of_object 0 (λ x. x.quota)) (object_here p s o oslot at_o))

      module _ (n m : Record) (n_is : n ≡ get_or p.holdings.records.items oslot n)
          (m_is : m ≡ get_or w.records.items dslot m) where
        other : n ≡ record_in p.holdings.records.items oslot
        other = get_or_read p.holdings.records.items oslot n (slot_within p s o oslot at_o) n_is blank

        own : m ≡ record_in p.holdings.records.items dslot
        own = get_or_read p.holdings.records.items dslot m (slot_within p s d dslot at_d)
            (m_is ∙ ap (λ (xs : List Record). get_or xs dslot m) records_are) blank

        pub enough : n.quota ≤ body_use m.body
        enough =
            let a = ap (λ (r : Record). r.quota) other in
            let b = ap (λ (r : Record). body_use r.body) own in
            let e = quota_listed (pieces_state p) d o listed_now in
            omega (arith, a, b, e, use_is, quota_is)

        module _ (q : Pieces) (limits : q.limits ≡ p.limits) (next_id : q.next_id ≡ p.next_id)
            (next_category : q.next_category ≡ p.next_category)
            (lists : q.places.lists ≡ live_lists (cut_lists p.places.lists d o))
            (kept_slots : (id slot : ℕ) → HasSlot q.places id slot → HasSlot p.places id slot)
            (cells : length q.places.cells ≡ length p.places.cells) (tree : IsWellFormed q.places)
            (handed : IsHanded p.places q.places went dead) (lost : IsLost p.places q.places dead)
            (labels : q.holdings.labels ≡ w.labels) (r : Record) (r_is : r ≡ with_use (body_use m.body - n.quota) m)
            (records : q.holdings.records.items ≡ set w.records.items dslot r) where
          abbrev spent : ℕ
          spent = body_use (record_in p.holdings.records.items dslot).body - (record_in p.holdings.records.items oslot).quota

          uses : ℕ → ℕ
          uses x = cond (x == dslot) spent (body_use (record_in p.holdings.records.items x).body)

          r_spent : r ≡ with_use spent (record_in p.holdings.records.items dslot)
          r_spent = r_is ∙ (λ i. with_use (body_use (own i).body - (other i).quota) (own i))

          unlinked : IsUnlinked p q d o
          unfolding uses
          unlinked = record {
            limits = limits;
            next_id = next_id;
            next_category = next_category;
            there = links_has p.places.lists d o is_linked;
            lists = lists;
            kept = kept_slots;
            cells = cells;
            tree = tree;
            dead = dead;
            slots = handed.objects_slots;
            lost = lost;
            labels = labels ∙ held_is.labels;
            uses = uses;
            records = λ x. ap (λ (xs : List Record). record_in xs x) (records ∙ ap (λ (xs : List Record). set xs dslot r) records_are)
                ∙ elim (cases_Bool (x == dslot)) [
                  | inl is ↦
                      ap (record_in (set p.holdings.records.items dslot r)) (eqb-true x dslot is)
                      ∙ get_or-set_same p.holdings.records.items dslot r blank (slot_within p s d dslot at_d)
                      ∙ r_spent
                      ∙ ap (λ (k : ℕ). with_use spent (record_in p.holdings.records.items k)) (sym (eqb-true x dslot is))
                      ∙ sym (ap (λ (v : Bool). with_use (cond v spent (body_use (record_in p.holdings.records.items x).body))
                      (record_in p.holdings.records.items x)) is)
                  | inr off ↦
                      get_or-set_other p.holdings.records.items dslot x r blank
                      (λ (e : x ≡ dslot). both_ways (x == dslot) off (eq-eqb x dslot e))
                      ∙ sym (λ i. record (record_in p.holdings.records.items x) {
                        body = same_use (record_in p.holdings.records.items x).body i;
                      })
                      ∙ sym (ap (λ (v : Bool). with_use (cond v spent (body_use (record_in p.holdings.records.items x).body))
                      (record_in p.holdings.records.items x)) off)
                ];
            room = ap (λ (xs : List Record). length xs) records ∙ length-set w.records.items dslot r
                ∙ ap (λ (xs : List Record). length xs) records_are;
          }

          abbrev slot : ℕ → ℕ
          slot i = slot_of p q s d o unlinked i

          one_slot : (i k : ℕ) → HasSlot p.places i k → k ≡ dslot → i ≡ d
          one_slot i k h same = elim (cases_eq h.place at_d.place) [
            | inl e ↦ sym h.id_is ∙ ap (λ (x : ℕ). get_or (ids_in p.places.lists) x 0) e ∙ at_d.id_is
            | inr off ↦ absurd (apart_at p.places.slots s.tree.apart h.place at_d.place
                (omega (arith, h.within, s.tree.beside)) (omega (arith, at_d.within, s.tree.beside)) off
                (h.slot_is ∙ same ∙ sym at_d.slot_is))
          ]

          charged : (i : ℕ) → has (ids_in q.places.lists) i ≡ true
              → body_use (with_use (unlinked.uses (slot i)) (record_in p.holdings.records.items (slot i))).body
              + freed p q s d o unlinked holds_list i ≡ use_of (pieces_state p) i
          unfolding unlinked uses
          charged i h =
              let at = has_left p q s d o unlinked i h in
              let was : HasSlot p.places i at.0 = kept_slots i at.0 at.1 in
              let here : slot i ≡ at.0 = slot_is p q s d o unlinked i at.0 was in
              let use_i : body_use (record_in p.holdings.records.items at.0).body ≡ use_of (pieces_state p) i
              = sym (ap (use_in p.holdings.records.items) (row_found p s i at.0 was)
              ∙ ap (λ (x : ℕ). body_use (record_in p.holdings.records.items x).body) was.slot_is) ∙ s.uses i in
              ap {B = ℕ} (λ (k : ℕ). body_use (with_use (uses k) (record_in p.holdings.records.items k)).body
              + cond (d == i) (quota_at (pieces_state p) o) 0) here
              ∙ elim (cases_Bool (d == i)) [
                | inl is ↦
                    let same : i ≡ d = sym (eqb-true d i is) in
                    let on : at.0 ≡ dslot = sym here ∙ ap slot same ∙ slot_is p q s d o unlinked d dslot at_d in
                    let test : (at.0 == dslot) ≡ true = eq-eqb at.0 dslot on in
                    let kind : is_kind kinds.Container (assembled p.holdings.labels (record_in p.holdings.records.items dslot) _) ≡ true
                    = sym (ap (of_object false (is_kind kinds.Container)) (object_here p s d dslot at_d))
                    ∙ container_of (object_at (pieces_state p) d) o listed_now in
                    let now : body_use (with_use (uses at.0) (record_in p.holdings.records.items at.0)).body ≡ spent
                    = ap {B = ℕ} (λ (v : Bool). body_use (with_use (cond v spent (body_use (record_in p.holdings.records.items at.0).body))
                    (record_in p.holdings.records.items at.0)).body) test
                    ∙ ap {B = ℕ} (λ (k : ℕ). body_use (with_use spent (record_in p.holdings.records.items k)).body) on
                    ∙ set_use p.holdings.labels (record_in p.holdings.records.items dslot) _ spent kind in
                    let take : cond (d == i) (quota_at (pieces_state p) o) 0 ≡ quota_at (pieces_state p) o
                    = ap {B = ℕ} (λ (v : Bool). cond v (quota_at (pieces_state p) o) 0) is in
                    let all : use_of (pieces_state p) i ≡ use_of (pieces_state p) d = ap (use_of (pieces_state p)) same in
                    let e = quota_listed (pieces_state p) d o listed_now in
                    omega (arith, now, take, all, e, use_is, quota_is)
                | inr off ↦
                    let other_slot : (at.0 == dslot) ≡ false = elim (cases_Bool (at.0 == dslot)) [
                      | inl is ↦ absurd (both_ways (d == i) off (eq-eqb d i (sym (one_slot i at.0 was (eqb-true at.0 dslot is)))))
                      | inr no_match ↦ no_match
                    ] in
                    let now : body_use (with_use (uses at.0) (record_in p.holdings.records.items at.0)).body
                    ≡ body_use (record_in p.holdings.records.items at.0).body
                    = ap {B = ℕ} (λ (v : Bool). body_use (with_use (cond v spent (body_use (record_in p.holdings.records.items at.0).body))
                    (record_in p.holdings.records.items at.0)).body) other_slot
                    ∙ ap body_use (same_use (record_in p.holdings.records.items at.0).body) in
                    let take : cond (d == i) (quota_at (pieces_state p) o) 0 ≡ 0
                    = ap {B = ℕ} (λ (v : Bool). cond v (quota_at (pieces_state p) o) 0) off in
                    omega (arith, now, take, use_i)
              ]

          pub sound_then : IsSound q
          sound_then = unlinked_sound p q s d o unlinked holds_list charged

          pub state_then : pieces_state q ≡ restricted (changed (pieces_state p) d (delisting o))
          state_then = unlinked_state p q s d o unlinked
