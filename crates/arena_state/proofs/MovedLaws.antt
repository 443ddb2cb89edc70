-- A quota of so many pages more and so many less, and the use of the container that lists the object.
use Rattle.std.proofs.Common.{◌≡◌, ◌≢◌, ℕ, ◌+◌, ◌-◌, ◌<◌, ◌≤◌, true, false, cond, ◌==◌, List, length, get_or, set, Some, None, refl, sym, ◌∙◌, ap, subst, arith, inl, inr, length-set}
use Rattle.std.proofs.lemmas.Bool.{cases_Bool, cases_eq, both_ways, eqb-true, eq-eqb}
use Rattle.std.proofs.lemmas.List.{get_or-set_same, get_or-set_other, get_or_read}
use Rattle.base.specs.Live.{has, links}
use Rattle.base.specs.declared.kinds.Kind.TheVariants as kinds
use Rattle.containers.specs.Tree.{HasSlot}
use Rattle.kernel_rules.specs.State.{State, object_at, of_object, use_of, quota_at, list_at, is_kind_at, is_kind, is_fixed, lists_of}
use Rattle.kernel_rules.specs.Changes.{put, changed, requoted}
use Rattle.kernel_rules.specs.WellFormed.{is_well_formed}
use Rattle.kernel_rules.specs.declared.calls.Entry.{Entry}
use Rattle.kernel_rules.specs.declared.objects.Object.{Object}
use Rattle.kernel_rules.proofs.KeptLaws.{at_put}
use Rattle.kernel_rules.proofs.LookupLaws.{at_is, lookup_put}
use Rattle.kernel_rules.proofs.MoveLaws.{moved_well_formed, requoted_use, quota_listed}
use Rattle.kernel_rules.proofs.RecordLaws.{lists_of-set_value}
use Rattle.arena_state.specs.declared.records.Record.{Record}
use Rattle.arena_state.specs.declared.records.Kept as kept
use Rattle.arena_state.specs.declared.records.Kept.TheVariants as keeps
use Rattle.arena_state.specs.declared.pieces.Pieces.{Pieces}
use Rattle.arena_state.specs.Assembled.{pieces_state, object_in, record_in, assembled, blank, claims, body_use, with_quota, with_use, reuse}
use Rattle.arena_state.specs.Sound.{IsSound}
use Rattle.arena_state.proofs.RowLaws.{row_place, all_but_one}
use Rattle.arena_state.proofs.SoundLaws.{object_here, slot_within, apart_at, with_record}
use Rattle.arena_state.proofs.RecordLaws.{use_unseen, use_claims, set_use}
use Rattle.arena_state.proofs.EditLaws.{read_is, kept_use_is}
use Rattle.arena_state.proofs.ViewLaws.{links_is}
use Rattle.arena_state.proofs.StepLaws.{container_of, object_there}
use Rattle.arena_state.proofs.ShapeLaws.{slot_of, slot_is, one_id}
use Rattle.arena_state.proofs.StayLaws.{IsRekept, rekept_sound}

reuse_twice : (k n : ℕ) (b : kept.Kept) → reuse k (reuse n b) ≡ reuse k b
reuse_twice k n (keeps.Container avoid used) = refl
reuse_twice k n (keeps.Segment pages) = refl
reuse_twice k n keeps.AddressSpace = refl
reuse_twice k n (keeps.Thread t) = refl
reuse_twice k n (keeps.Gate g) = refl
reuse_twice k n keeps.Device = refl

module _ (p : Pieces) (s : IsSound p) (e : Entry) (up down : ℕ) (held : has (list_at (pieces_state p) e.container) e.object ≡ true)
    (loose : is_fixed (pieces_state p) e.object ≡ false)
    (room : use_of (pieces_state p) e.container + up ≤ quota_at (pieces_state p) e.container)
    (free : use_of (pieces_state p) e.object + down ≤ quota_at (pieces_state p) e.object) where
  abbrev d : ℕ
  d = e.container

  abbrev o : ℕ
  o = e.object

  kind : is_kind_at (pieces_state p) kinds.Container d ≡ true
  kind = container_of (object_at (pieces_state p) d) o held

  link : links p.places.lists d o ≡ true
  link = links_is p s d o ∙ held

  pub no_object : object_at (pieces_state p) e.object ≡ None → ⊥
  no_object none = object_there p s d o held none

  pub no_container : object_at (pieces_state p) e.container ≡ None → ⊥
  no_container none = both_ways (is_kind_at (pieces_state p) kinds.Container d)
      (ap (of_object false (is_kind kinds.Container)) none) kind

  -- no container lists itself, and none the root
  apart : d ≢ o
  apart same =
      let itself : d < d = s.climbs d d kind (subst (λ (k : ℕ). links p.places.lists d k ≡ true) (sym same) link) in
      omega arith

  not_root : o ≢ 1
  not_root is = s.tree.root_free d (subst (λ (k : ℕ). links p.places.lists d k ≡ true) is link)

  module _ (dslot oslot : ℕ) (at_d : HasSlot p.places e.container dslot) (at_o : HasSlot p.places e.object oslot) where
    far : dslot ≢ oslot
    far same = apart (one_id p s d o oslot (subst (λ (k : ℕ). HasSlot p.places d k) same at_d) at_o)

    quota_is : (record_in p.holdings.records.items oslot).quota ≡ quota_at (pieces_state p) o
    quota_is = sym (ap (of_object 0 (λ x. x.quota)) (object_here p s o oslot at_o))

    most_is : (record_in p.holdings.records.items dslot).quota ≡ quota_at (pieces_state p) d
    most_is = sym (ap (of_object 0 (λ x. x.quota)) (object_here p s d dslot at_d))

    abbrev list_d : List ℕ
    list_d = (row_place p.places.lists p.places.slots at_d.place).list

    abbrev list_o : List ℕ
    list_o = (row_place p.places.lists p.places.slots at_o.place).list

    is_container : is_kind kinds.Container (assembled p.holdings.labels (record_in p.holdings.records.items dslot) list_d) ≡ true
    is_container = sym (ap (of_object false (is_kind kinds.Container)) (object_here p s d dslot at_d)) ∙ kind

    module _ (w n : Record) (w_is : w ≡ get_or p.holdings.records.items dslot w)
        (n_is : n ≡ get_or p.holdings.records.items oslot n) where
      most : w.quota ≡ quota_at (pieces_state p) d
      most = ap (λ (r : Record). r.quota) (read_is p s d dslot at_d w w_is) ∙ most_is

      given : n ≡ record_in p.holdings.records.items oslot
      given = read_is p s o oslot at_o n n_is

      pages : n.quota ≡ quota_at (pieces_state p) o
      pages = ap (λ (r : Record). r.quota) given ∙ quota_is

      pub quota_fits : n.quota + up ≤ w.quota
      quota_fits = omega (arith, most, pages, quota_listed (pieces_state p) d o held, room)

      pub quota_enough : down ≤ n.quota + up
      quota_enough = omega (arith, pages, free)

      module _ (t : Record) (t_is : t ≡ with_quota ((n.quota + up) - down) n) (m : Record)
          (m_is : m ≡ get_or (set p.holdings.records.items oslot t) dslot m) where
        own : m ≡ record_in p.holdings.records.items dslot
        own = get_or_read (set p.holdings.records.items oslot t) dslot m
            (omega (arith, slot_within p s d dslot at_d, length-set p.holdings.records.items oslot t)) m_is blank
            ∙ get_or-set_other p.holdings.records.items oslot dslot t blank far

        use_m : body_use m.body ≡ use_of (pieces_state p) d
        use_m = ap (λ (r : Record). body_use r.body) own ∙ kept_use_is p s d dslot at_d

        pub charge_fits : body_use m.body + up ≤ w.quota
        charge_fits = omega (arith, use_m, most, room)

        module _ (u : Record) (u_is : u ≡ with_use (body_use m.body + up) m) where
          use_u : body_use u.body ≡ body_use m.body + up
          use_u = ap (λ (r : Record). body_use r.body) (u_is ∙ (λ i. with_use (body_use m.body + up) (own i)))
              ∙ set_use p.holdings.labels (record_in p.holdings.records.items dslot) list_d (body_use m.body + up) is_container

          pub charge_enough : down ≤ body_use u.body
          charge_enough = omega (arith, use_u, use_m, quota_listed (pieces_state p) d o held, free)

          module _ (r : Record) (r_is : r ≡ with_use (body_use u.body - down) u) where
            abbrev q : Pieces
            q = with_record (with_record p oslot t) dslot r

            abbrev spent : ℕ
            spent = body_use u.body - down

            r_spent : r ≡ with_use spent (record_in p.holdings.records.items dslot)
            r_spent = r_is ∙ (λ i. with_use spent (u_is i))
                ∙ (λ i. record m { body = reuse_twice spent (body_use m.body + up) m.body i })
                ∙ (λ i. with_use spent (own i))

            t_given : t ≡ with_quota ((n.quota + up) - down) (record_in p.holdings.records.items oslot)
            t_given = t_is ∙ (λ i. with_quota ((n.quota + up) - down) (given i))

            sizes : length (set p.holdings.records.items oslot t) ≡ length p.holdings.records.items
            sizes = length-set p.holdings.records.items oslot t

            at_dslot : record_in q.holdings.records.items dslot ≡ with_use spent (record_in p.holdings.records.items dslot)
            at_dslot = get_or-set_same (set p.holdings.records.items oslot t) dslot r blank
                (omega (arith, slot_within p s d dslot at_d, sizes)) ∙ r_spent

            at_oslot : record_in q.holdings.records.items oslot ≡ t
            at_oslot = get_or-set_other (set p.holdings.records.items oslot t) dslot oslot r blank
                (λ (same : oslot ≡ dslot). far (sym same))
                ∙ get_or-set_same p.holdings.records.items oslot t blank (slot_within p s o oslot at_o)

            elsewhere : (x : ℕ) → x ≢ dslot → x ≢ oslot → record_in q.holdings.records.items x ≡ record_in p.holdings.records.items x
            elsewhere x off_d off_o = get_or-set_other (set p.holdings.records.items oslot t) dslot x r blank off_d
                ∙ get_or-set_other p.holdings.records.items oslot x t blank off_o

            claim : (i x : ℕ) → claims i (record_in q.holdings.records.items x) ≡ claims i (record_in p.holdings.records.items x)
            claim i x = elim (cases_eq x dslot) [
              | inl is ↦
                  ap (λ (k : ℕ). claims i (record_in q.holdings.records.items k)) is ∙ ap (claims i) at_dslot
                  ∙ use_claims i spent (record_in p.holdings.records.items dslot)
                  ∙ ap (λ (k : ℕ). claims i (record_in p.holdings.records.items k)) (sym is)
              | inr off_d ↦ elim (cases_eq x oslot) [
                | inl is ↦
                    ap (λ (k : ℕ). claims i (record_in q.holdings.records.items k)) is ∙ ap (claims i) (at_oslot ∙ t_given)
                    ∙ ap (λ (k : ℕ). claims i (record_in p.holdings.records.items k)) (sym is)
                | inr off_o ↦ ap (claims i) (elsewhere x off_d off_o)
              ]
            ]

            rekept : IsRekept p q
            rekept = record {
              limits = refl;
              ids = refl;
              slots = refl;
              cells = refl;
              tree = s.tree;
              labels = refl;
              room = length-set (set p.holdings.records.items oslot t) dslot r ∙ sizes;
              claim = claim;
            }

            was : Object
            was = assembled p.holdings.labels (record_in p.holdings.records.items oslot) list_o

            found : object_at (pieces_state p) o ≡ Some (assembled p.holdings.labels (record_in p.holdings.records.items oslot) list_o)
            found = object_here p s o oslot at_o

            abbrev now : Object
            now = requoted up down (assembled p.holdings.labels (record_in p.holdings.records.items oslot) list_o)

            object_now : assembled p.holdings.labels t list_o ≡ now
            object_now = ap (λ (z : Record). assembled p.holdings.labels z list_o) t_given
                ∙ (λ i. record (assembled p.holdings.labels (record_in p.holdings.records.items oslot) list_o) {
                  quota = ((ap (λ (z : Record). z.quota) given i) + up) - down;
                })

            other_object : (j : ℕ) → j < length p.places.slots → j ≢ at_o.place → (l : List ℕ)
                → assembled p.holdings.labels (record_in q.holdings.records.items (get_or p.places.slots j 0)) l
                ≡ assembled p.holdings.labels (record_in p.holdings.records.items (get_or p.places.slots j 0)) l
            other_object j in_j off l =
                let y = get_or p.places.slots j 0 in
                let off_o : y ≢ oslot = subst (λ (x : ℕ). y ≢ x) at_o.slot_is
                (apart_at p.places.slots s.tree.apart j at_o.place in_j (omega (arith, at_o.within, s.tree.beside)) off) in
                elim (cases_eq y dslot) [
                  | inl is ↦
                      ap (λ (k : ℕ). assembled p.holdings.labels (record_in q.holdings.records.items k) l) is
                      ∙ ap (λ (z : Record). assembled p.holdings.labels z l) at_dslot
                      ∙ use_unseen p.holdings.labels spent (record_in p.holdings.records.items dslot) l
                      ∙ ap (λ (k : ℕ). assembled p.holdings.labels (record_in p.holdings.records.items k) l) (sym is)
                  | inr off_d ↦ ap (λ (z : Record). assembled p.holdings.labels z l) (elsewhere y off_d off_o)
                ]

            put_state : pieces_state q ≡ put (pieces_state p) o now
            put_state =
                let changed_one = all_but_one (object_in p.holdings) (object_in q.holdings) p.places.lists p.places.slots at_o.place now
                s.tree.beside s.tree.rises at_o.within
                (ap (λ (x : ℕ). assembled p.holdings.labels (record_in q.holdings.records.items x) list_o) at_o.slot_is
                ∙ ap (λ (z : Record). assembled p.holdings.labels z list_o) at_oslot ∙ object_now)
                (λ j in_j off. other_object j (omega (arith, in_j, s.tree.beside)) off (row_place p.places.lists p.places.slots j).list) in
                (λ i. record (pieces_state p) { objects = changed_one i })
                ∙ ap (λ (k : ℕ). put (pieces_state p) k now) at_o.id_is

            pub state_then : pieces_state q ≡ changed (pieces_state p) o (requoted up down)
            state_then = put_state
                ∙ sym (ap (of_object (pieces_state p) (λ x. put (pieces_state p) o (requoted up down x))) found)

            lists_now : lists_of (pieces_state q).objects ≡ p.places.lists
            lists_now = ap (λ (z : State). lists_of z.objects) put_state
                ∙ lists_of-set_value o (pieces_state p).objects _ now found refl ∙ s.lists

            used : (id slot : ℕ) → HasSlot p.places id slot
                → body_use (record_in q.holdings.records.items slot).body ≡ use_of (pieces_state q) id
            used id slot h =
                let use_id = kept_use_is p s id slot h in
                let moves : use_of (pieces_state q) id + cond (id == d) down 0 ≡ use_of (pieces_state p) id + cond (id == d) up 0
                = ap (λ (z : State). use_of z id + cond (id == d) down 0) state_then
                ∙ requoted_use (pieces_state p) e up down held loose room free s.formed id in
                elim (cases_Bool (id == d)) [
                  | inl is ↦
                      let same : slot ≡ dslot
                      = sym (slot_is p s id slot h) ∙ ap (slot_of p s) (eqb-true id d is) ∙ slot_is p s d dslot at_d in
                      let kept_now : body_use (record_in q.holdings.records.items slot).body ≡ spent
                      = ap (λ (j : ℕ). body_use (record_in q.holdings.records.items j).body) same
                      ∙ ap (λ (z : Record). body_use z.body) at_dslot
                      ∙ set_use p.holdings.labels (record_in p.holdings.records.items dslot) list_d spent is_container in
                      let less : cond (id == d) down 0 ≡ down = ap {B = ℕ} (λ v. cond v down 0) is in
                      let more : cond (id == d) up 0 ≡ up = ap {B = ℕ} (λ v. cond v up 0) is in
                      let same_use_of : use_of (pieces_state p) id ≡ use_of (pieces_state p) d = ap (use_of (pieces_state p)) (eqb-true id d is) in
                      omega (arith, kept_now, less, more, same_use_of, moves, use_u, use_m, charge_enough)
                  | inr off ↦
                      let off_d : slot ≢ dslot = λ (same : slot ≡ dslot). both_ways (id == d) off
                      (eq-eqb id d (one_id p s id d dslot (subst (λ (k : ℕ). HasSlot p.places id k) same h) at_d)) in
                      let kept_now : body_use (record_in q.holdings.records.items slot).body ≡ body_use (record_in p.holdings.records.items slot).body
                      = elim (cases_eq slot oslot) [
                        | inl is ↦
                            ap (λ (k : ℕ). body_use (record_in q.holdings.records.items k).body) is
                            ∙ ap (λ (z : Record). body_use z.body) (at_oslot ∙ t_given)
                            ∙ ap (λ (k : ℕ). body_use (record_in p.holdings.records.items k).body) (sym is)
                        | inr off_o ↦ ap (λ (z : Record). body_use z.body) (elsewhere slot off_d off_o)
                      ] in
                      let less : cond (id == d) down 0 ≡ 0 = ap {B = ℕ} (λ v. cond v down 0) off in
                      let more : cond (id == d) up 0 ≡ 0 = ap {B = ℕ} (λ v. cond v up 0) off in
                      omega (arith, kept_now, less, more, moves, use_id)
                ]

            climbs : (a b : ℕ) → is_kind_at (pieces_state q) kinds.Container b ≡ true → links p.places.lists a b ≡ true → a < b
            climbs a b kind_b l = s.climbs a b
                (sym (at_put false (is_kind kinds.Container) (pieces_state p) o b _ now found refl)
                ∙ sym (ap (λ (z : State). is_kind_at z kinds.Container b) put_state) ∙ kind_b) l

            root : quota_at (pieces_state q) 1 ≡ quota_at (pieces_state p) 1
            root =
                let off : (1 == o) ≡ false = elim (cases_Bool (1 == o)) [
                  | inl is ↦ absurd (not_root (sym (eqb-true 1 o is)))
                  | inr off ↦ off
                ] in
                ap (λ (z : State). quota_at z 1) put_state
                ∙ ap (of_object 0 (λ z. z.quota)) (lookup_put o 1 (pieces_state p).objects _ now found)
                ∙ ap (λ v. of_object 0 (λ z. z.quota) (cond v (Some now) (object_at (pieces_state p) 1))) (at_is 1 o ∙ off)

            pub sound_then : IsSound q
            sound_then = rekept_sound p q s rekept
                (subst (λ (z : State). is_well_formed z ≡ true) (sym state_then)
                (moved_well_formed (pieces_state p) e up down held loose room free s.formed))
                lists_now used climbs root
