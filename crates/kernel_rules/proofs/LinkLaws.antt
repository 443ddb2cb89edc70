-- A second link to an object whose quota is fixed.
use Rattle.std.proofs.Common.{◌≡◌, ◌≢◌, ℕ, ◌+◌, ◌≤◌, Bool, true, false, cond, ◌&&◌, ◌||◌, ◌==◌}
use Rattle.std.proofs.Common.{nat_lt, nat_le, List, [], ◌∷◌, ◌++◌, Some, None, is_some, refl}
use Rattle.std.proofs.Common.{sym, ◌∙◌, ap, subst, arith, inl, inr}
use Rattle.std.specs.List.{list_all}
use Rattle.std.specs.Ordering.{nat_cmp}
use Rattle.std.specs.BTreeMap.{is_at}
use Rattle.std.proofs.lemmas.Bool.{and_parts, and_from, or_cases, both_ways, eqb-true}
use Rattle.std.proofs.lemmas.List.Folds.{list_all-append}
use Rattle.base.specs.Live.{has, is_live}
use Rattle.base.specs.declared.kinds.Kind.TheVariants as kinds
use Rattle.kernel_rules.specs.Changes.{put, changed, listing}
use Rattle.kernel_rules.specs.State.{State, object_at, of_object, is_kind, is_kind_at, listed, lists_of}
use Rattle.kernel_rules.specs.State.{list_at, use_of, quota_at, holds, is_fixed}
use Rattle.kernel_rules.specs.WellFormed.{is_well_formed, is_kept, is_distinct, is_listed_rightly}
use Rattle.kernel_rules.specs.WellFormed.{listers, ids_rise}
use Rattle.kernel_rules.specs.declared.calls.Entry.{Entry}
use Rattle.kernel_rules.specs.declared.objects.Object.{Object}
use Rattle.kernel_rules.proofs.CountLaws.{counted_one, count_linked, not_root}
use Rattle.kernel_rules.proofs.GrowLaws.{Grows, grows-set_value, live_grow, all-set_value, all_weaker}
use Rattle.kernel_rules.proofs.KeptLaws.{some_put, rise-put}
use Rattle.kernel_rules.proofs.ListerLaws.{IsKept, kept_parts, kept_from, count_put}
use Rattle.kernel_rules.proofs.ListingLaws.{IsContainerAt, container_at, listed-listing}
use Rattle.kernel_rules.proofs.ListingLaws.{whole-listing, kind-listing, has_wider, distinct-append}
use Rattle.kernel_rules.proofs.LookupLaws.{all_at, all_from, lookup_put}
use Rattle.kernel_rules.proofs.RecordLaws.{same_id}
use Rattle.kernel_rules.proofs.UseLaws.{listing_use_here, listing_use_other}
use Rattle.kernel_rules.proofs.WellFormedLaws.{Soundness, soundness_of, well_formed_from}

le_test : (a b : ℕ) → a ≤ b → nat_le a b ≡ true
le_test a b h = grind arith

-- where it is linked: y is the container d's object, z that of o, which some list has and d's has not
pub record Linking (s : State) (d o : ℕ) (y z : Object) : Type 0 where
  pub found : object_at s d ≡ Some y
  pub kind : is_kind kinds.Container y ≡ true
  pub there : object_at s o ≡ Some z
  pub plain : is_kind kinds.Container z ≡ false
  pub fixed : z.fixed ≡ true
  pub other : d ≢ o
  pub once : 1 ≤ listers s o
  pub fresh : has (listed y.body) o ≡ false
  pub room : use_of s d + z.quota ≤ y.quota

-- the state with o last in d's list, whose object was y
abbrev pub linked : State → ℕ → ℕ → Object → State
linked s d o y = put s d (listing o y)

recorded : (s : State) (d o : ℕ) (y z : Object) → Linking s d o y z → (ids : List ℕ)
    → list_all (λ i. is_some (object_at (linked s d o y) i)) ids ≡ list_all (λ i. is_some (object_at s i)) ids
recorded s d o y z m ids = λ j. list_all (λ i. some_put s d i y (listing o y) m.found j) ids

kept_here : (s : State) (d o : ℕ) (y z : Object) → Linking s d o y z → Soundness s
    → is_kept (linked s d o y) d (listing o y) ≡ true
kept_here s d o y z m h =
    let k : IsKept s d y = kept_parts s d y (all_at (λ q z. is_kept s q z) s.objects d y h.kept m.found) in
    let list : listed (listing o y).body ≡ listed y.body ++ o ∷ [] = listed-listing y o m.kind in
    let lists : listers (linked s d o y) d ≡ listers s d = count_put d o d s.objects y m.other m.found m.kind in
    kept_from (linked s d o y) d (listing o y) (record {
      distinct = ap is_distinct list ∙ distinct-append (listed y.body) o k.distinct m.fresh;
      recorded = recorded s d o y z m (listed (listing o y).body)
          ∙ ap (list_all (λ i. is_some (object_at s i))) list
          ∙ list_all-append (λ i. is_some (object_at s i)) (listed y.body) (o ∷ [])
          ∙ and_from (list_all (λ i. is_some (object_at s i)) (listed y.body))
          (is_some (object_at s o) && true) k.recorded
          (and_from (is_some (object_at s o)) true (ap is_some m.there) refl);
      within = ap (λ n. nat_le n y.quota)
          (listing_use_here s d o y m.found m.kind
          ∙ ap (λ v. use_of s d + of_object 0 (λ w. w.quota) v) m.there)
          ∙ le_test (use_of s d + z.quota) y.quota m.room;
      rightly = (λ i. cond (d == 1) (lists i == 0)
          (cond (kind-listing y o i) (lists i == 1)
          (nat_le 1 (lists i) && (nat_le (lists i) 1 || y.fixed)))) ∙ k.rightly;
      whole = whole-listing y o ∙ k.whole;
    })

kept_linked : (s : State) (d o : ℕ) (y z : Object) → Linking s d o y z → Soundness s
    → is_at (nat_cmp o) d ≡ false → is_kept (linked s d o y) o z ≡ true
kept_linked s d o y z m h far =
    let k : IsKept s o z = kept_parts s o z (all_at (λ q z. is_kept s q z) s.objects o z h.kept m.there) in
    let lists : listers (linked s d o y) o ≡ 1 + listers s o =
    count_linked d o s.objects y m.found m.kind m.fresh in
    let no_root : (o == 1) ≡ false = not_root (listers s o) o z k.rightly m.once in
    kept_from (linked s d o y) o z (record {
      distinct = k.distinct;
      recorded = recorded s d o y z m (listed z.body) ∙ k.recorded;
      within = ap (λ n. nat_le n z.quota) (listing_use_other s d o y m.found o far) ∙ k.within;
      rightly = (λ i. cond (no_root i) (lists i == 0)
          (cond (m.plain i) (lists i == 1) (nat_le 1 (lists i) && (nat_le (lists i) 1 || m.fixed i))))
          ∙ and_from (nat_le 1 (1 + listers s o)) (nat_le (1 + listers s o) 1 || true)
          (le_test 1 (1 + listers s o) (omega arith)) (either (nat_le (1 + listers s o) 1));
      whole = k.whole;
    })
  where
    either : (b : Bool) → (b || true) ≡ true
    either true = refl
    either false = refl

kept_other : (s : State) (d o : ℕ) (y z : Object) → Linking s d o y z → Soundness s → (q : ℕ) (w : Object)
    → object_at s q ≡ Some w → is_at (nat_cmp q) d ≡ false → q ≢ o → is_kept (linked s d o y) q w ≡ true
kept_other s d o y z m h q w found far other =
    let k : IsKept s q w = kept_parts s q w (all_at (λ q z. is_kept s q z) s.objects q w h.kept found) in
    let lists : listers (linked s d o y) q ≡ listers s q = count_put d o q s.objects y other m.found m.kind in
    kept_from (linked s d o y) q w (record {
      distinct = k.distinct;
      recorded = recorded s d o y z m (listed w.body) ∙ k.recorded;
      within = ap (λ n. nat_le n w.quota) (listing_use_other s d o y m.found q far) ∙ k.within;
      rightly = ap (λ n. is_listed_rightly n q w) lists ∙ k.rightly;
      whole = k.whole;
    })

linked_sound : (s : State) (d o : ℕ) (y z : Object) → Linking s d o y z → Soundness s
    → Soundness (linked s d o y)
linked_sound s d o y z m h =
    let grown : Grows (lists_of s.objects) (lists_of (linked s d o y).objects) =
    grows-set_value d s.objects y (listing o y) m.found (λ b. has_wider y o b m.kind) in
    let rise : ids_rise (linked s d o y).objects ≡ true = rise-put d s.objects (listing o y) ∙ h.rise in
    record {
      begun = h.begun;
      live = all-set_value (λ q. is_live (lists_of (linked s d o y).objects) q) d s.objects (listing o y)
          ∙ all_weaker (λ q. is_live (lists_of s.objects) q)
          (λ q. is_live (lists_of (linked s d o y).objects) q) s.objects
          (live_grow (lists_of s.objects) (lists_of (linked s d o y).objects) grown) h.live;
      given = all-set_value (λ q. nat_lt q s.next_id) d s.objects (listing o y) ∙ h.given;
      rise = rise;
      kept = all_from (λ q w. is_kept (linked s d o y) q w) (linked s d o y).objects rise (λ q w at.
          let there : cond (is_at (nat_cmp q) d) (Some (listing o y)) (object_at s q) ≡ Some w =
          sym (lookup_put d q s.objects y (listing o y) m.found) ∙ at in
          elim (is_at (nat_cmp q) d)
          as (λ v. is_at (nat_cmp q) d ≡ v → cond v (Some (listing o y)) (object_at s q) ≡ Some w
          → is_kept (linked s d o y) q w ≡ true) [
            | true ↦ λ near f.
                let on : q ≡ d = same_id q d near in
                let is_y : listing o y ≡ w = cc in
                subst (λ p. is_kept (linked s d o y) p w ≡ true) (sym on)
                (subst (λ (v : Object). is_kept (linked s d o y) d v ≡ true) is_y (kept_here s d o y z m h))
            | false ↦ λ far f. elim (q == o) as (λ v. (q == o) ≡ v → is_kept (linked s d o y) q w ≡ true) [
              | true ↦ λ is.
                  let on : q ≡ o = eqb-true q o is in
                  let same : Some z ≡ Some w = sym m.there ∙ subst (λ p. object_at s p ≡ Some w) on f in
                  let is_z : z ≡ w = cc in
                  subst (λ p. is_kept (linked s d o y) p w ≡ true) (sym on)
                  (subst (λ (v : Object). is_kept (linked s d o y) o v ≡ true) is_z
                  (kept_linked s d o y z m h (subst (λ p. is_at (nat_cmp p) d ≡ false) on far)))
              | false ↦ λ is. kept_other s d o y z m h q w f far (λ e. both_ways (q == o) is (eq_test q o e))
            ] refl
          ] refl there);
    }
  where
    eq_test : (a b : ℕ) → a ≡ b → (a == b) ≡ true
    eq_test a b e = grind arith

-- an object whose quota is fixed
record IsFixedAt (s : State) (o : ℕ) : Type 0 where
  object : Object
  found : object_at s o ≡ Some object
  fixed : object.fixed ≡ true

fixed_at : (s : State) (o : ℕ) → is_fixed s o ≡ true → IsFixedAt s o
fixed_at s o h =
    elim (object_at s o) as (λ v. object_at s o ≡ v → of_object false (λ x. x.fixed) v ≡ true → IsFixedAt s o) [
      | None ↦ λ is f. absurd (both_ways false refl f)
      | Some x ↦ λ is f. record { object = x; found = is; fixed = f }
    ] refl h

-- an entry that stands, of an object that is no container, is in a list
pub held_once : (s : State) (e : Entry) → holds s e ≡ true → is_kind_at s kinds.Container e.object ≡ false
    → 1 ≤ listers s e.object
held_once s e held plain =
    let parts : (is_kind_at s kinds.Container e.container ≡ true)
    × ((has (list_at s e.container) e.object || e.object == e.container) ≡ true)
    = and_parts (is_kind_at s kinds.Container e.container)
    (has (list_at s e.container) e.object || e.object == e.container) held in
    let at : IsContainerAt s e.container = container_at s e.container parts.0 in
    elim (or_cases (has (list_at s e.container) e.object) (e.object == e.container) parts.1) [
      | inl has_it ↦ counted_one e.container e.object s.objects at.object at.found
          (subst (λ v. has (of_object [] (λ x. listed x.body) v) e.object ≡ true) at.found has_it)
      | inr itself ↦ absurd
          (both_ways (is_kind_at s kinds.Container e.object) plain
          (subst (λ p. is_kind_at s kinds.Container p ≡ true) (sym (eqb-true e.object e.container itself))
          parts.0))
    ]

pub linked_well_formed : (s : State) (d : ℕ) (e : Entry) → is_kind_at s kinds.Container d ≡ true
    → holds s e ≡ true → is_kind_at s kinds.Container e.object ≡ false → is_fixed s e.object ≡ true
    → has (list_at s d) e.object ≡ false → use_of s d + quota_at s e.object ≤ quota_at s d
    → is_well_formed s ≡ true → is_well_formed (changed s d (listing e.object)) ≡ true
linked_well_formed s d e kind held plain fixed fresh room h =
    let at : IsContainerAt s d = container_at s d kind in
    let it : IsFixedAt s e.object = fixed_at s e.object fixed in
    ap (λ v. is_well_formed (of_object s (λ x. put s d (listing e.object x)) v)) at.found
    ∙ well_formed_from (linked s d e.object at.object)
    (linked_sound s d e.object at.object it.object
    (record {
      found = at.found;
      kind = at.kind;
      there = it.found;
      plain = subst (λ v. of_object false (is_kind kinds.Container) v ≡ false) it.found plain;
      fixed = it.fixed;
      other = λ on. both_ways (is_kind_at s kinds.Container e.object) plain
          (subst (λ p. is_kind_at s kinds.Container p ≡ true) on kind);
      once = held_once s e held plain;
      fresh = subst (λ v. has (of_object [] (λ x. listed x.body) v) e.object ≡ false) at.found fresh;
      room = subst (λ v. use_of s d + of_object 0 (λ x. x.quota) v ≤ at.object.quota) it.found
          (subst (λ v. use_of s d + quota_at s e.object ≤ of_object 0 (λ x. x.quota) v) at.found room);
    })
    (soundness_of s h))
