-- A new object in a container of a well-formed state.
use Rattle.std.proofs.Common.{◌≡◌, ◌≢◌, ℕ, ◌+◌, ◌<◌, ◌≤◌, Bool, true, false, cond, ◌&&◌, ◌||◌}
use Rattle.std.proofs.Common.{nat_lt, nat_le, ◌==◌, List, [], ◌∷◌, ◌++◌, Some, is_some, Result, Ok}
use Rattle.std.proofs.Common.{Err, OnOk, OnErr, refl, sym, ◌∙◌, ap, subst, arith}
use Rattle.std.specs.List.{list_all}
use Rattle.std.specs.Ordering.{nat_cmp}
use Rattle.std.specs.Map.{set_value}
use Rattle.std.specs.BTreeMap.{is_at, insert_entry}
use Rattle.std.proofs.lemmas.Bool.{and_from, both_ways, eqb-true, eq-eqb, ltb-true}
use Rattle.std.proofs.lemmas.List.Folds.{list_all-append}
use Rattle.base.specs.Live.{has, are_live}
use Rattle.base.specs.declared.kinds.Kind.TheVariants as kinds
use Rattle.label_lattice.specs.Label.{LabelValue}
use Rattle.kernel_rules.specs.State.{State, object_at, of_object, is_kind, listed, lists_of, own_cost}
use Rattle.kernel_rules.specs.State.{use_of, quota_at}
use Rattle.kernel_rules.specs.Changes.{listing, made, fresh_object}
use Rattle.kernel_rules.specs.Fitting.{IsFitting}
use Rattle.kernel_rules.specs.WellFormed.{is_well_formed, ids_rise, is_kept, is_whole, is_whole_body}
use Rattle.kernel_rules.specs.WellFormed.{is_stored, is_distinct, is_listed_rightly, listers}
use Rattle.kernel_rules.specs.declared.objects.Object.{Object}
use Rattle.kernel_rules.specs.declared.objects.Body as body
use Rattle.kernel_rules.proofs.GrowLaws.{make_live, all-set_value, all-insert, all_weaker}
use Rattle.kernel_rules.proofs.KeptLaws.{all_keys-put, rise-put}
use Rattle.kernel_rules.proofs.LookupLaws.{all_at, all_from, insert_last}
use Rattle.kernel_rules.proofs.RecordLaws.{same_id}
use Rattle.kernel_rules.proofs.WellFormedLaws.{Soundness, soundness_of, well_formed_from}
use Rattle.kernel_rules.proofs.ListingLaws.{IsContainerAt, container_at, listed-listing}
use Rattle.kernel_rules.proofs.ListingLaws.{whole-listing, kind-listing, has_wider, has_new}
use Rattle.kernel_rules.proofs.ListingLaws.{distinct-append, not_listed}
use Rattle.kernel_rules.proofs.GrownLaws.{rise-append, grown, Making, making_from, made_is}
use Rattle.kernel_rules.proofs.GrownLaws.{recorded_old, grown_other, grown_new, all_some, use_other}
use Rattle.kernel_rules.proofs.GrownLaws.{use_here, use_new}
use Rattle.kernel_rules.proofs.ListerLaws.{count_put, count_new, IsKept, kept_parts, kept_from}
use Rattle.kernel_rules.proofs.ListerLaws.{unlisted_next, listers_of}

le_test : (a b : ℕ) → a ≤ b → nat_le a b ≡ true
le_test a b h = grind arith

-- d's object, with the new id in its list
kept_here : (s : State) (d : ℕ) (y x : Object) → Making s d y → Soundness s → listed x.body ≡ []
    → use_of s d + x.quota ≤ quota_at s d → is_kept (grown s d y x) d (listing s.next_id y) ≡ true
kept_here s d y x m h empty room =
    let k : IsKept s d y = kept_parts s d y (all_at (λ q z. is_kept s q z) s.objects d y h.kept m.found) in
    let list : listed (listing s.next_id y).body ≡ listed y.body ++ s.next_id ∷ [] =
    listed-listing y s.next_id m.kind in
    let fresh : has (listed y.body) s.next_id ≡ false =
    not_listed s s.next_id (listed y.body) m.absent k.recorded in
    let quota : quota_at s d ≡ y.quota = ap (of_object 0 (λ w. w.quota)) m.found in
    let other : d ≢ s.next_id = recorded_old s d y m.given m.found in
    let lists : listers (grown s d y x) d ≡ listers s d =
    listers_of s d y x empty d ∙ count_put d s.next_id d s.objects y other m.found m.kind in
    kept_from (grown s d y x) d (listing s.next_id y) (record {
      distinct = ap is_distinct list ∙ distinct-append (listed y.body) s.next_id k.distinct fresh;
      recorded = ap (list_all (λ i. is_some (object_at (grown s d y x) i))) list
          ∙ list_all-append (λ i. is_some (object_at (grown s d y x) i)) (listed y.body) (s.next_id ∷ [])
          ∙ and_from (list_all (λ i. is_some (object_at (grown s d y x) i)) (listed y.body))
          (is_some (object_at (grown s d y x) s.next_id) && true)
          (all_some s d y x m (listed y.body) k.recorded)
          (and_from (is_some (object_at (grown s d y x) s.next_id)) true (ap is_some (grown_new s d y x m))
          refl);
      within = ap (λ n. nat_le n y.quota) (use_here s d y x m k.recorded)
          ∙ le_test (use_of s d + x.quota) y.quota (subst (λ n. use_of s d + x.quota ≤ n) quota room);
      rightly = (λ i. cond (d == 1) (lists i == 0)
          (cond (kind-listing y s.next_id i) (lists i == 1)
          (nat_le 1 (lists i) && (nat_le (lists i) 1 || y.fixed)))) ∙ k.rightly;
      whole = whole-listing y s.next_id ∙ k.whole;
    })

-- the new object
kept_new : (s : State) (d : ℕ) (y x : Object) → Making s d y → Soundness s → listed x.body ≡ []
    → own_cost x.body ≤ x.quota → is_whole x ≡ true → is_kept (grown s d y x) s.next_id x ≡ true
kept_new s d y x m h empty enough whole =
    let lists : listers (grown s d y x) s.next_id ≡ 1
    = listers_of s d y x empty s.next_id
    ∙ count_new d s.next_id s.objects y m.found m.kind (unlisted_next s s.objects m.absent h.kept) in
    kept_from (grown s d y x) s.next_id x (record {
      distinct = ap is_distinct empty;
      recorded = ap (list_all (λ i. is_some (object_at (grown s d y x) i))) empty;
      within = ap (λ n. nat_le n x.quota) (use_new s d y x m empty) ∙ le_test (own_cost x.body) x.quota enough;
      rightly = (λ i. is_listed_rightly (lists i) s.next_id x)
          ∙ ap (λ b. cond b (1 == 0)
          (cond (is_kind kinds.Container x) (1 == 1) (nat_le 1 1 && (nat_le 1 1 || x.fixed))))
          (not_one s.next_id h.begun)
          ∙ either (is_kind kinds.Container x);
      whole = whole;
    })
  where
    not_one : (n : ℕ) → nat_lt 3 n ≡ true → (n == 1) ≡ false
    not_one n h = let more : 3 < n = ltb-true 3 n h in grind arith

    either : (b : Bool) → cond b true true ≡ true
    either true = refl
    either false = refl

-- an object that is neither
kept_other : (s : State) (d : ℕ) (y x : Object) → Making s d y → Soundness s → listed x.body ≡ []
    → (q : ℕ) (z : Object) → object_at s q ≡ Some z → is_at (nat_cmp q) d ≡ false
    → is_kept (grown s d y x) q z ≡ true
kept_other s d y x m h empty q z found far =
    let k : IsKept s q z = kept_parts s q z (all_at (λ o w. is_kept s o w) s.objects q z h.kept found) in
    let other : q ≢ s.next_id = recorded_old s q z m.given found in
    let lists : listers (grown s d y x) q ≡ listers s q =
    listers_of s d y x empty q ∙ count_put d s.next_id q s.objects y other m.found m.kind in
    kept_from (grown s d y x) q z (record {
      distinct = k.distinct;
      recorded = all_some s d y x m (listed z.body) k.recorded;
      within = ap (λ n. nat_le n z.quota) (use_other s d y x m q z found far k.recorded) ∙ k.within;
      rightly = ap (λ n. is_listed_rightly n q z) lists ∙ k.rightly;
      whole = k.whole;
    })

below_next : (n o : ℕ) → nat_lt o n ≡ true → nat_lt o (n + 1) ≡ true
below_next n o h = let less : o < n = ltb-true o n h in grind arith

next_below : (n : ℕ) → nat_lt n (n + 1) ≡ true
next_below n = grind arith

begun_next : (n : ℕ) → nat_lt 3 n ≡ true → nat_lt 3 (n + 1) ≡ true
begun_next n h = below_next n 3 h

grown_sound : (s : State) (d : ℕ) (y x : Object) → Making s d y → Soundness s → listed x.body ≡ []
    → own_cost x.body ≤ x.quota → use_of s d + x.quota ≤ quota_at s d → is_whole x ≡ true
    → Soundness (grown s d y x)
grown_sound s d y x m h empty enough room whole =
    let mid : List (ℕ × Object) = set_value (is_at (nat_cmp d)) s.objects (listing s.next_id y) in
    let last : insert_entry nat_cmp (set_value (is_at (nat_cmp d)) s.objects (listing s.next_id y)) s.next_id x
    ≡ (grown s d y x).objects
    = insert_last s.next_id (set_value (is_at (nat_cmp d)) s.objects (listing s.next_id y)) x
    (all_keys-put (λ k. nat_lt k s.next_id) d s.objects (listing s.next_id y) ∙ m.given) in
    let rise : ids_rise (grown s d y x).objects ≡ true
    = rise-append s.next_id x (set_value (is_at (nat_cmp d)) s.objects (listing s.next_id y))
    (rise-put d s.objects (listing s.next_id y) ∙ h.rise)
    (all_keys-put (λ k. nat_lt k s.next_id) d s.objects (listing s.next_id y) ∙ m.given) in
    record {
      begun = begun_next s.next_id h.begun;
      live = ap (λ es. are_live (lists_of es)) (sym last)
          ∙ make_live d s.next_id s.objects y (listing s.next_id y) x m.found m.absent
          (λ b. has_wider y s.next_id b m.kind) (has_new y s.next_id m.kind) h.live;
      given = ap (λ es. list_all (λ e. nat_lt e.0 (s.next_id + 1)) (lists_of es)) (sym last)
          ∙ all-insert (λ o. nat_lt o (s.next_id + 1)) s.next_id
          (set_value (is_at (nat_cmp d)) s.objects (listing s.next_id y)) x (next_below s.next_id)
          (all-set_value (λ o. nat_lt o (s.next_id + 1)) d s.objects (listing s.next_id y)
          ∙ all_weaker (λ o. nat_lt o s.next_id) (λ o. nat_lt o (s.next_id + 1)) s.objects
          (below_next s.next_id) h.given);
      rise = rise;
      kept = all_from (λ q z. is_kept (grown s d y x) q z) (grown s d y x).objects rise (λ q z at.
          elim (q == s.next_id) as (λ v. (q == s.next_id) ≡ v → is_kept (grown s d y x) q z ≡ true) [
            | true ↦ λ is.
                let on : q ≡ s.next_id = eqb-true q s.next_id is in
                let there : Some x ≡ Some z =
                sym (grown_new s d y x m) ∙ subst (λ o. object_at (grown s d y x) o ≡ Some z) on at in
                let is_x : x ≡ z = cc in
                subst (λ o. is_kept (grown s d y x) o z ≡ true) (sym on)
                (subst (λ (w : Object). is_kept (grown s d y x) s.next_id w ≡ true) is_x
                (kept_new s d y x m h empty enough whole))
            | false ↦ λ is.
                let other : q ≢ s.next_id = (λ e. both_ways (q == s.next_id) is (eq-eqb q s.next_id e)) in
                let there : cond (is_at (nat_cmp q) d) (Some (listing s.next_id y)) (object_at s q) ≡ Some z =
                sym (grown_other s d y x m q other) ∙ at in
                elim (is_at (nat_cmp q) d)
                as (λ v. is_at (nat_cmp q) d ≡ v → cond v (Some (listing s.next_id y)) (object_at s q)
                ≡ Some z → is_kept (grown s d y x) q z ≡ true) [
                  | true ↦ λ near f.
                      let on : q ≡ d = same_id q d near in
                      let is_y : listing s.next_id y ≡ z = cc in
                      subst (λ o. is_kept (grown s d y x) o z ≡ true) (sym on)
                      (subst (λ (w : Object). is_kept (grown s d y x) d w ≡ true) is_y
                      (kept_here s d y x m h empty room))
                  | false ↦ λ far f. kept_other s d y x m h empty q z f far
                ] refl there
          ] refl);
    }

whole_fresh : (l : LabelValue) (q : ℕ) (b : body.Body) → is_stored l ≡ true → is_whole_body b ≡ true
    → is_whole (fresh_object l q b) ≡ true
whole_fresh l q b label whole =
    and_from (is_stored l && true) (is_whole_body b) (and_from (is_stored l) true label refl) whole

-- a new object in a container with room for it
pub made_well_formed : (s : State) (d : ℕ) (l : LabelValue) (q : ℕ) (b : body.Body) → IsFitting s d q b
    → is_stored l ≡ true → is_well_formed s ≡ true
    → is_well_formed (made s d (fresh_object l q b)) ≡ true
made_well_formed s d l q b fits label h =
    let at : IsContainerAt s d = container_at s d fits.container in
    let m : Making s d at.object = making_from s d at (soundness_of s h) in
    ap is_well_formed (made_is s d at.object (fresh_object l q b) m)
    ∙ well_formed_from (grown s d at.object (fresh_object l q b))
    (grown_sound s d at.object (fresh_object l q b) m (soundness_of s h) fits.empty fits.enough fits.room
    (whole_fresh l q b label fits.whole))

-- a change that may have failed for want of memory
pub sound_after : {A E : Type 0} (r : Result A E) (new edit old : State) → OnOk r (new ≡ edit)
    → OnErr r (new ≡ old)
    → is_well_formed old ≡ true → is_well_formed edit ≡ true → is_well_formed new ≡ true
sound_after (Ok x) new edit old ok err before after = ap is_well_formed ok ∙ after
sound_after (Err x) new edit old ok err before after = ap is_well_formed err ∙ before
