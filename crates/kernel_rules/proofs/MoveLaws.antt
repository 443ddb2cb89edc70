-- A change of the quota of an object that one list has.
use Rattle.std.proofs.Common.{◌≡◌, ◌≢◌, ℕ, ◌+◌, ◌-◌, ◌≤◌, Bool, true, false, cond, not, ◌||◌}
use Rattle.std.proofs.Common.{◌==◌, nat_lt, nat_le, List, [], ◌∷◌, Option, Some, None, is_some, sum_by, refl}
use Rattle.std.proofs.Common.{sym, ◌∙◌, ap, subst, arith, inl, inr}
use Rattle.std.specs.List.{list_all}
use Rattle.std.specs.Ordering.{nat_cmp}
use Rattle.std.specs.BTreeMap.{is_at}
use Rattle.std.proofs.lemmas.Bool.{and_parts, both_ways, cases_Bool, eq-eqb, eqb-true}
use Rattle.std.proofs.lemmas.List.Sums.{sum_by-cons}
use Rattle.base.specs.Live.{has, are_live}
use Rattle.kernel_rules.specs.Changes.{put, changed, requoted}
use Rattle.kernel_rules.specs.State.{State, object_at, of_object, listed, lists_of, list_at, own_cost}
use Rattle.kernel_rules.specs.State.{use_of, quota_at, cost_at, is_fixed}
use Rattle.kernel_rules.specs.WellFormed.{is_well_formed, is_kept, is_distinct, listers, ids_rise}
use Rattle.kernel_rules.specs.WellFormed.{is_listed_rightly}
use Rattle.kernel_rules.specs.declared.calls.Entry.{Entry}
use Rattle.kernel_rules.specs.declared.objects.Object.{Object}
use Rattle.kernel_rules.proofs.CountLaws.{counts, counted_two, one_list}
use Rattle.kernel_rules.proofs.KeptLaws.{at_put, some_put, rise-put}
use Rattle.kernel_rules.proofs.ListerLaws.{IsKept, kept_parts, kept_from}
use Rattle.kernel_rules.proofs.ListingLaws.{not_listed}
use Rattle.kernel_rules.proofs.LookupLaws.{all_at, all_from, at_self, lookup_put}
use Rattle.kernel_rules.proofs.QuotaLaws.{use_within}
use Rattle.kernel_rules.proofs.RecordLaws.{same_id, lists_of-set_value}
use Rattle.kernel_rules.proofs.WellFormedLaws.{Soundness, soundness_of, well_formed_from}

le_test : (a b : ℕ) → a ≤ b → nat_le a b ≡ true
le_test a b h = grind arith

-- where it is changed: x is the object of o, which d's list alone has
pub record Moving (s : State) (d o up down : ℕ) (x : Object) : Type 0 where
  pub found : object_at s o ≡ Some x
  pub loose : x.fixed ≡ false
  pub held : has (list_at s d) o ≡ true
  pub room : use_of s d + up ≤ quota_at s d
  pub free : use_of s o + down ≤ x.quota

-- as many as there are, where a test holds, and none elsewhere
abbrev where_true : Bool → ℕ → ℕ
where_true b n = cond b n 0

-- the state with another quota of o, whose object was x
abbrev pub moved : State → ℕ → ℕ → ℕ → Object → State
moved s o up down x = put s o (requoted up down x)

module _ (s : State) (d o up down : ℕ) (x : Object) (m : Moving s d o up down x) where
  new_quota : (x.quota + up - down) + down ≡ x.quota + up
  new_quota = let enough = m.free in omega arith

  quota_here : quota_at (moved s o up down x) o + down ≡ quota_at s o + up
  quota_here =
      let at : object_at (moved s o up down x) o ≡ Some (requoted up down x) =
      lookup_put o o s.objects x (requoted up down x) m.found
      ∙ ap (λ b. cond b (Some (requoted up down x)) (object_at s o)) (at_self o) in
      ap (λ v. of_object 0 (λ w. w.quota) v + down) at ∙ new_quota
      ∙ ap (λ v. of_object 0 (λ w. w.quota) v + up) (sym m.found)

  quota_far : (k : ℕ) → (o == k) ≡ false → quota_at (moved s o up down x) k ≡ quota_at s k
  quota_far k far =
      ap (of_object 0 (λ w. w.quota)) (lookup_put o k s.objects x (requoted up down x) m.found)
      ∙ ap (λ b. of_object 0 (λ w. w.quota) (cond b (Some (requoted up down x)) (object_at s k))) not_at
    where
      eq_test : (a b : ℕ) → a ≡ b → (b == a) ≡ true
      eq_test a b e = grind arith

      not_at : is_at (nat_cmp k) o ≡ false
      not_at = elim (is_at (nat_cmp k) o) as (λ v. is_at (nat_cmp k) o ≡ v → v ≡ false) [
        | true ↦ λ is. absurd (both_ways (o == k) far (eq_test k o (same_id k o is)))
        | false ↦ λ is. refl
      ] refl

  -- the quotas of what stands once in a list
  quotas : (ids : List ℕ) → is_distinct ids ≡ true
      → sum_by (quota_at (moved s o up down x)) ids + where_true (has ids o) down
      ≡ sum_by (quota_at s) ids + where_true (has ids o) up
  quotas [] d' = refl
  quotas (i ∷ ids) distinct =
      let both : (not (has ids i) ≡ true) × (is_distinct ids ≡ true) =
      and_parts (not (has ids i)) (is_distinct ids) distinct in
      let rest = quotas ids both.1 in
      let new = sum_by-cons (quota_at (moved s o up down x)) i ids in
      let old = sum_by-cons (quota_at s) i ids in
      elim (o == i) as (λ v. (o == i) ≡ v
      → sum_by (quota_at (moved s o up down x)) (i ∷ ids) + where_true (v || has ids o) down
      ≡ sum_by (quota_at s) (i ∷ ids) + where_true (v || has ids o) up) [
        | true ↦ λ is.
            let on : o ≡ i = eqb-true o i is in
            let gone : has ids o ≡ false =
            subst (λ k. has ids k ≡ false) (sym on) (not_true (has ids i) both.0) in
            let here : quota_at (moved s o up down x) i + down ≡ quota_at s i + up =
            subst (λ k. quota_at (moved s o up down x) k + down ≡ quota_at s k + up) on
            quota_here in
            let none : sum_by (quota_at (moved s o up down x)) ids ≡ sum_by (quota_at s) ids =
            without_it (sum_by (quota_at (moved s o up down x)) ids) (sum_by (quota_at s) ids)
            (has ids o) gone rest in
            together (sum_by (quota_at (moved s o up down x)) (i ∷ ids)) (sum_by (quota_at s) (i ∷ ids))
            (quota_at (moved s o up down x) i) (quota_at s i)
            (sum_by (quota_at (moved s o up down x)) ids) (sum_by (quota_at s) ids) new old here none
        | false ↦ λ is.
            let here = quota_far i is in
            apart (sum_by (quota_at (moved s o up down x)) (i ∷ ids)) (sum_by (quota_at s) (i ∷ ids))
            (quota_at (moved s o up down x) i) (quota_at s i)
            (sum_by (quota_at (moved s o up down x)) ids) (sum_by (quota_at s) ids)
            (where_true (has ids o) down) (where_true (has ids o) up) new old here rest
      ] refl
    where
      not_true : (b : Bool) → not b ≡ true → b ≡ false
      not_true true h = sym h
      not_true false h = refl

      without_it : (a b : ℕ) (v : Bool) → v ≡ false → a + where_true v down ≡ b + where_true v up → a ≡ b
      without_it a b true e h = absurd (both_ways true e refl)
      without_it a b false e h = omega arith

      together : (a b p q e f : ℕ) → a ≡ p + e → b ≡ q + f → p + down ≡ q + up → e ≡ f → a + down ≡ b + up
      together a b p q e f h k l n = omega arith

      apart : (a b p q e f g j : ℕ) → a ≡ p + e → b ≡ q + f → p ≡ q → e + g ≡ f + j → a + g ≡ b + j
      apart a b p q e f g j h k l n = omega arith

  -- what each object uses
  pub uses : (q : ℕ) → is_distinct (list_at s q) ≡ true
      → use_of (moved s o up down x) q + where_true (has (list_at s q) o) down
      ≡ use_of s q + where_true (has (list_at s q) o) up
  uses q distinct =
      let list : list_at (moved s o up down x) q ≡ list_at s q =
      at_put [] (λ w. listed w.body) s o q x (requoted up down x) m.found refl in
      let cost : cost_at (moved s o up down x) q ≡ cost_at s q =
      at_put 0 (λ w. own_cost w.body) s o q x (requoted up down x) m.found refl in
      let same : use_of (moved s o up down x) q
      ≡ cost_at s q + sum_by (quota_at (moved s o up down x)) (list_at s q)
      = (λ i. cost i + sum_by (quota_at (moved s o up down x)) (list i)) in
      joined (use_of (moved s o up down x) q) (cost_at s q)
      (sum_by (quota_at (moved s o up down x)) (list_at s q)) (sum_by (quota_at s) (list_at s q))
      (where_true (has (list_at s q) o) down) (where_true (has (list_at s q) o) up) same
      (quotas (list_at s q) distinct)
    where
      joined : (a c e f g j : ℕ) → a ≡ c + e → e + g ≡ f + j → a + g ≡ (c + f) + j
      joined a c e f g j h n = omega arith

  -- of what lists o there is d alone
  pub lister : (q : ℕ) (w : Object) → object_at s q ≡ Some w → has (list_at s q) o ≡ true → Soundness s → q ≡ d
  lister q w found has_it h =
      let k : IsKept s o x = kept_parts s o x (all_at (λ q z. is_kept s q z) s.objects o x h.kept m.found) in
      let few : listers s o ≤ 1 = one_list (listers s o) o x k.rightly m.loose in
      elim (q == d) as (λ v. (q == d) ≡ v → q ≡ d) [
        | true ↦ λ is. eqb-true q d is
        | false ↦ λ is. two (object_at s d) refl (λ e. both_ways (q == d) is (eq_test q d e)) few
      ] refl
    where
      eq_test : (a b : ℕ) → a ≡ b → (a == b) ≡ true
      eq_test a b e = grind arith

      two : (v : Option Object) → object_at s d ≡ v → q ≢ d → listers s o ≤ 1 → q ≡ d
      two None is other few = absurd
          (both_ways false refl (subst (λ v. has (of_object [] (λ z. listed z.body) v) o ≡ true) is m.held))
      two (Some y) is other few =
          let more : 2 ≤ listers s o = counted_two q d o s.objects w y other found is
          (subst (λ v. has (of_object [] (λ z. listed z.body) v) o ≡ true) found has_it)
          (subst (λ v. has (of_object [] (λ z. listed z.body) v) o ≡ true) is m.held) in
          absurd (omega arith)

  -- an object other than o uses at most its quota
  within_other : (q : ℕ) (w : Object) → object_at s q ≡ Some w → is_distinct (list_at s q) ≡ true → Soundness s
      → use_of (moved s o up down x) q ≤ w.quota
  within_other q w found distinct h =
      let used = uses q distinct in
      let before : use_of s q ≤ w.quota = use_within s q w found h in
      elim (has (list_at s q) o) as (λ v. has (list_at s q) o ≡ v
      → use_of (moved s o up down x) q + where_true v down ≡ use_of s q + where_true v up
      → use_of (moved s o up down x) q ≤ w.quota) [
        | true ↦ λ is e.
            let on : q ≡ d = lister q w found is h in
            let enough : use_of s q + up ≤ w.quota =
            subst (λ v. use_of s q + up ≤ of_object 0 (λ z. z.quota) v) found
            (subst (λ k. use_of s k + up ≤ quota_at s k) (sym on) m.room) in
            held_within (use_of (moved s o up down x) q) (use_of s q) w.quota e enough
        | false ↦ λ is e. same_within (use_of (moved s o up down x) q) (use_of s q) w.quota e before
      ] refl used
    where
      held_within : (a b c : ℕ) → a + down ≡ b + up → b + up ≤ c → a ≤ c
      held_within a b c e h = omega arith

      same_within : (a b c : ℕ) → a + 0 ≡ b + 0 → b ≤ c → a ≤ c
      same_within a b c e h = omega arith

  within_here : is_distinct (list_at s o) ≡ true → use_of (moved s o up down x) o ≤ (requoted up down x).quota
  within_here distinct =
      elim (has (list_at s o) o)
      as (λ v. use_of (moved s o up down x) o + where_true v down ≡ use_of s o + where_true v up
      → use_of (moved s o up down x) o ≤ (x.quota + up) - down) [
        | true ↦ λ e. held_within (use_of (moved s o up down x) o) (use_of s o) x.quota e m.free
        | false ↦ λ e. same_within (use_of (moved s o up down x) o) (use_of s o) x.quota e m.free
      ] (uses o distinct)
    where
      held_within : (a b c : ℕ) → a + down ≡ b + up → b + down ≤ c → a ≤ (c + up) - down
      held_within a b c e h = omega arith

      same_within : (a b c : ℕ) → a + 0 ≡ b + 0 → b + down ≤ c → a ≤ (c + up) - down
      same_within a b c e h = omega arith

  recorded : (ids : List ℕ) → list_all (λ i. is_some (object_at (moved s o up down x) i)) ids
      ≡ list_all (λ i. is_some (object_at s i)) ids
  recorded ids = λ j. list_all (λ i. some_put s o i x (requoted up down x) m.found j) ids

  same_lists : lists_of (moved s o up down x).objects ≡ lists_of s.objects
  same_lists = lists_of-set_value o s.objects x (requoted up down x) m.found refl

  same_listers : (q : ℕ) → listers (moved s o up down x) q ≡ listers s q
  same_listers q = ap (λ l. sum_by (counts q) l) same_lists

  kept_here : Soundness s → is_kept (moved s o up down x) o (requoted up down x) ≡ true
  kept_here h =
      let k : IsKept s o x = kept_parts s o x (all_at (λ q z. is_kept s q z) s.objects o x h.kept m.found) in
      kept_from (moved s o up down x) o (requoted up down x) (record {
        distinct = k.distinct;
        recorded = recorded (listed x.body) ∙ k.recorded;
        within = le_test (use_of (moved s o up down x) o) (requoted up down x).quota
            (within_here (subst (λ v. is_distinct (of_object [] (λ z. listed z.body) v) ≡ true) (sym m.found)
            k.distinct));
        rightly = ap (λ n. is_listed_rightly n o x) (same_listers o) ∙ k.rightly;
        whole = k.whole;
      })

  kept_other : Soundness s → (q : ℕ) (w : Object) → object_at s q ≡ Some w
      → is_kept (moved s o up down x) q w ≡ true
  kept_other h q w found =
      let k : IsKept s q w = kept_parts s q w (all_at (λ q z. is_kept s q z) s.objects q w h.kept found) in
      kept_from (moved s o up down x) q w (record {
        distinct = k.distinct;
        recorded = recorded (listed w.body) ∙ k.recorded;
        within = le_test (use_of (moved s o up down x) q) w.quota
            (within_other q w found
            (subst (λ v. is_distinct (of_object [] (λ z. listed z.body) v) ≡ true) (sym found) k.distinct) h);
        rightly = ap (λ n. is_listed_rightly n q w) (same_listers q) ∙ k.rightly;
        whole = k.whole;
      })

  pub moved_sound : Soundness s → Soundness (moved s o up down x)
  moved_sound h =
      let rise : ids_rise (moved s o up down x).objects ≡ true =
      rise-put o s.objects (requoted up down x) ∙ h.rise in
      record {
        begun = h.begun;
        live = ap are_live same_lists ∙ h.live;
        given = ap (λ l. list_all (λ e. nat_lt e.0 s.next_id) l) same_lists ∙ h.given;
        rise = rise;
        kept = all_from (λ q w. is_kept (moved s o up down x) q w) (moved s o up down x).objects rise (λ q w at.
            let there : cond (is_at (nat_cmp q) o) (Some (requoted up down x)) (object_at s q) ≡ Some w =
            sym (lookup_put o q s.objects x (requoted up down x) m.found) ∙ at in
            elim (is_at (nat_cmp q) o)
            as (λ v. is_at (nat_cmp q) o ≡ v → cond v (Some (requoted up down x)) (object_at s q) ≡ Some w
            → is_kept (moved s o up down x) q w ≡ true) [
              | true ↦ λ is f.
                  let on : q ≡ o = same_id q o is in
                  let is_new : requoted up down x ≡ w = cc in
                  subst (λ p. is_kept (moved s o up down x) p w ≡ true) (sym on)
                  (subst (λ (v : Object). is_kept (moved s o up down x) o v ≡ true) is_new (kept_here h))
              | false ↦ λ is f. kept_other h q w f
            ] refl there);
      }

-- what a call requires says where it is changed
pub moving_at : (s : State) (e : Entry) (up down : ℕ) (x : Object) → object_at s e.object ≡ Some x
    → has (list_at s e.container) e.object ≡ true → is_fixed s e.object ≡ false
    → use_of s e.container + up ≤ quota_at s e.container → use_of s e.object + down ≤ quota_at s e.object
    → Moving s e.container e.object up down x
moving_at s e up down x is held loose room free = record {
  found = is;
  loose = subst (λ v. of_object false (λ z. z.fixed) v ≡ false) is loose;
  held = held;
  room = room;
  free = subst (λ v. use_of s e.object + down ≤ of_object 0 (λ z. z.quota) v) is free;
}

-- another quota of an object that is not fixed, with room for it in the container that lists it
pub moved_well_formed : (s : State) (e : Entry) (up down : ℕ) → has (list_at s e.container) e.object ≡ true
    → is_fixed s e.object ≡ false → use_of s e.container + up ≤ quota_at s e.container
    → use_of s e.object + down ≤ quota_at s e.object → is_well_formed s ≡ true
    → is_well_formed (changed s e.object (requoted up down)) ≡ true
moved_well_formed s e up down held loose room free h = at_object (object_at s e.object) refl
  where
    at_object : (v : Option Object) → object_at s e.object ≡ v
        → is_well_formed (of_object s (λ x. put s e.object (requoted up down x)) v) ≡ true
    at_object None is = h
    at_object (Some x) is =
        well_formed_from (moved s e.object up down x)
        (moved_sound s e.container e.object up down x (moving_at s e up down x is held loose room free) (soundness_of s h))

-- what a list has takes its quota from the container's
pub quota_listed : (s : State) (d o : ℕ) → has (list_at s d) o ≡ true → quota_at s o ≤ use_of s d
quota_listed s d o h =
    let part : quota_at s o ≤ sum_by (quota_at s) (list_at s d) = among (quota_at s) (list_at s d) h in
    omega arith
  where
    among : (f : ℕ → ℕ) (ids : List ℕ) → has ids o ≡ true → f o ≤ sum_by f ids
    among f [] h = absurd (both_ways false refl h)
    among f (i ∷ ids) h =
        let all = sum_by-cons f i ids in
        elim (o == i) as (λ v. (o == i) ≡ v → (v || has ids o) ≡ true → f o ≤ sum_by f (i ∷ ids)) [
          | true ↦ λ is l.
              let on : f o ≡ f i = ap f (eqb-true o i is) in
              omega arith
          | false ↦ λ is l.
              let rest = among f ids l in
              omega arith
        ] refl h

-- what stands in a list is recorded
listed_recorded : (s : State) (d o : ℕ) → Soundness s → has (list_at s d) o ≡ true → object_at s o ≡ None → ⊥
listed_recorded s d o h held none =
    elim (object_at s d) as (λ v. object_at s d ≡ v → has (of_object [] (λ z. listed z.body) v) o ≡ true → ⊥) [
      | None ↦ λ is l. both_ways false refl l
      | Some y ↦ λ is l.
          let k : IsKept s d y = kept_parts s d y (all_at (λ q z. is_kept s q z) s.objects d y h.kept is) in
          both_ways (has (listed y.body) o) (not_listed s o (listed y.body) none k.recorded) l
    ] refl held

distinct_at : (s : State) (q : ℕ) → Soundness s → is_distinct (list_at s q) ≡ true
distinct_at s q h =
    elim (object_at s q) as (λ v. object_at s q ≡ v → is_distinct (of_object [] (λ z. listed z.body) v) ≡ true) [
      | None ↦ λ is. refl
      | Some y ↦ λ is. (kept_parts s q y (all_at (λ i z. is_kept s i z) s.objects q y h.kept is)).distinct
    ] refl

-- once a quota moved, the one container that lists the object uses as much more and less, and others what they used
pub requoted_use : (s : State) (e : Entry) (up down : ℕ) → has (list_at s e.container) e.object ≡ true
    → is_fixed s e.object ≡ false → use_of s e.container + up ≤ quota_at s e.container
    → use_of s e.object + down ≤ quota_at s e.object → is_well_formed s ≡ true → (q : ℕ)
    → use_of (changed s e.object (requoted up down)) q + cond (q == e.container) down 0
    ≡ use_of s q + cond (q == e.container) up 0
requoted_use s e up down held loose room free h q = at_object (object_at s e.object) refl
  where
    at_object : (v : Option Object) → object_at s e.object ≡ v
        → use_of (of_object s (λ x. put s e.object (requoted up down x)) v) q + cond (q == e.container) down 0
        ≡ use_of s q + cond (q == e.container) up 0
    at_object None is = absurd (listed_recorded s e.container e.object (soundness_of s h) held is)
    at_object (Some x) is =
        let m = moving_at s e up down x is held loose room free in
        subst (λ (b : Bool). use_of (moved s e.object up down x) q + cond b down 0 ≡ use_of s q + cond b up 0)
        (test x m)
        (uses s e.container e.object up down x m q (distinct_at s q (soundness_of s h)))
      where
        holder : (x : Object) → Moving s e.container e.object up down x → has (list_at s q) e.object ≡ true → q ≡ e.container
        holder x m l =
            elim (object_at s q)
            as (λ v. object_at s q ≡ v → has (of_object [] (λ z. listed z.body) v) e.object ≡ true → q ≡ e.container) [
              | None ↦ λ none has_it. absurd (both_ways false refl has_it)
              | Some w ↦ λ found has_it.
                  lister s e.container e.object up down x m q w found l (soundness_of s h)
            ] refl l

        test : (x : Object) → Moving s e.container e.object up down x
            → has (list_at s q) e.object ≡ (q == e.container)
        test x m = elim (cases_Bool (q == e.container)) [
          | inl is ↦ subst (λ k. has (list_at s k) e.object ≡ true) (sym (eqb-true q e.container is)) held ∙ sym is
          | inr off ↦ elim (cases_Bool (has (list_at s q) e.object)) [
            | inl l ↦ absurd (both_ways (q == e.container) off (eq-eqb q e.container (holder x m l)))
            | inr none ↦ none ∙ sym off
          ]
        ]
