-- A segment that gets another length within its quota.
use Rattle.std.proofs.Common.{◌≡◌, ◌≤◌, ℕ, ◌+◌, ◌-◌, ◌*◌, ◌/◌, true, false, cond, ◌&&◌, ◌||◌}
use Rattle.std.proofs.Common.{◌==◌, nat_le, nat_lt, List, [], length, take, replicate, min}
use Rattle.std.proofs.Common.{Some, None, is_some, sum_by, refl, sym, ◌∙◌, ap, subst, arith}
use Rattle.std.proofs.Common.{length-append}
use Rattle.std.specs.List.{list_all}
use Rattle.std.specs.Ordering.{nat_cmp}
use Rattle.std.specs.BTreeMap.{is_at}
use Rattle.std.proofs.lemmas.Bool.{and_parts, and_from, eq-eqb}
use Rattle.std.proofs.lemmas.List.{length-replicate, length-take}
use Rattle.base.specs.Live.{has, are_live}
use Rattle.base.specs.declared.kinds.Kind.TheVariants as kinds
use Rattle.kernel_rules.specs.Changes.{put, changed, with_body, rebyte}
use Rattle.kernel_rules.specs.Written.{resized}
use Rattle.kernel_rules.specs.State.{State, object_at, of_object, listed, use_of, own_cost, is_kind}
use Rattle.kernel_rules.specs.State.{quota_at, lists_of}
use Rattle.kernel_rules.specs.WellFormed.{is_well_formed, is_kept, is_whole, is_whole_body, is_stored}
use Rattle.kernel_rules.specs.WellFormed.{is_distinct, listers, ids_rise}
use Rattle.kernel_rules.specs.declared.objects.Body as body
use Rattle.kernel_rules.specs.declared.objects.Body.TheVariants as is
use Rattle.kernel_rules.specs.declared.objects.Object.{Object}
use Rattle.kernel_rules.proofs.KeptLaws.{rise-put, some_put, at_put, kept_same}
use Rattle.kernel_rules.proofs.ListerLaws.{IsKept, kept_parts, kept_from}
use Rattle.kernel_rules.proofs.LookupLaws.{all_at, all_from, lookup_put}
use Rattle.kernel_rules.proofs.RecordLaws.{same_id, lists_of-set_value}
use Rattle.kernel_rules.proofs.WellFormedLaws.{Soundness, soundness_of, well_formed_from}

le_test : (a b : ℕ) → a ≤ b → nat_le a b ≡ true
le_test a b h = grind arith

-- y takes the place of x, which lists nothing, at another cost within its quota
record TakesPlace (x y : Object) : Type 0 where
  old_list : listed x.body ≡ []
  list : listed y.body ≡ []
  kind : is_kind kinds.Container y ≡ is_kind kinds.Container x
  quota : y.quota ≡ x.quota
  fixed : y.fixed ≡ x.fixed
  cost : own_cost y.body ≤ y.quota
  whole : is_whole x ≡ true → is_whole y ≡ true

-- elsewhere the use is the same
use_elsewhere : (s : State) (o q : ℕ) (x y : Object) → object_at s o ≡ Some x → y.quota ≡ x.quota
    → is_at (nat_cmp q) o ≡ false → use_of (put s o y) q ≡ use_of s q
use_elsewhere s o q x y found quota far =
    let same : object_at (put s o y) q ≡ object_at s q =
    lookup_put o q s.objects x y found ∙ ap (λ b. cond b (Some y) (object_at s q)) far in
    λ i. of_object 0 (λ z. own_cost z.body) (same i)
    + sum_by (λ k. at_put 0 (λ z. z.quota) s o k x y found quota i)
    (of_object [] (λ z. listed z.body) (same i))

-- the object itself uses its own cost alone
use_itself : (s : State) (o : ℕ) (x y : Object) → object_at s o ≡ Some x → listed y.body ≡ []
    → is_at (nat_cmp o) o ≡ true → use_of (put s o y) o ≡ own_cost y.body
use_itself s o x y found list near =
    let here : object_at (put s o y) o ≡ Some y =
    lookup_put o o s.objects x y found ∙ ap (λ b. cond b (Some y) (object_at s o)) near in
    (λ i. of_object 0 (λ z. own_cost z.body) (here i)
    + sum_by (quota_at (put s o y)) (of_object [] (λ z. listed z.body) (here i)))
    ∙ ap (λ ids. own_cost y.body + sum_by (quota_at (put s o y)) ids) list ∙ no_more (own_cost y.body)
  where
    no_more : (n : ℕ) → n + 0 ≡ n
    no_more n = omega arith

taken_sound : (s : State) (o : ℕ) (x y : Object) → object_at s o ≡ Some x → TakesPlace x y → Soundness s
    → Soundness (put s o y)
taken_sound s o x y found takes h =
    let lists : lists_of (put s o y).objects ≡ lists_of s.objects =
    lists_of-set_value o s.objects x y found (takes.list ∙ sym takes.old_list) in
    let rise : ids_rise (put s o y).objects ≡ true = rise-put o s.objects y ∙ h.rise in
    let count : (q : ℕ) → listers (put s o y) q ≡ listers s q =
    (λ q. ap (λ l. sum_by (λ e. cond (has e.1 q) 1 0) l) lists) in
    record {
      begun = h.begun;
      live = ap are_live lists ∙ h.live;
      given = ap (λ l. list_all (λ e. nat_lt e.0 s.next_id) l) lists ∙ h.given;
      rise = rise;
      kept = all_from (λ q z. is_kept (put s o y) q z) (put s o y).objects rise (λ q z at.
          let there : cond (is_at (nat_cmp q) o) (Some y) (object_at s q) ≡ Some z =
          sym (lookup_put o q s.objects x y found) ∙ at in
          elim (is_at (nat_cmp q) o)
          as (λ v. is_at (nat_cmp q) o ≡ v → cond v (Some y) (object_at s q) ≡ Some z
          → is_kept (put s o y) q z ≡ true) [
            | true ↦ λ near f.
                let on : q ≡ o = same_id q o near in
                let is_y : y ≡ z = cc in
                let k : IsKept s o x = kept_parts s o x (all_at (λ q z. is_kept s q z) s.objects o x h.kept found)
                in
                subst (λ k. is_kept (put s o y) k z ≡ true) (sym on)
                (subst (λ (w : Object). is_kept (put s o y) o w ≡ true) is_y
                (kept_from (put s o y) o y (record {
                  distinct = ap is_distinct takes.list;
                  recorded = ap (list_all (λ i. is_some (object_at (put s o y) i))) takes.list;
                  within = ap (λ n. nat_le n y.quota)
                      (use_itself s o x y found takes.list (subst (λ k. is_at (nat_cmp k) o ≡ true) on near))
                      ∙ le_test (own_cost y.body) y.quota takes.cost;
                  rightly = (λ i. cond (o == 1) (count o i == 0)
                      (cond (takes.kind i) (count o i == 1)
                      (nat_le 1 (count o i) && (nat_le (count o i) 1 || takes.fixed i)))) ∙ k.rightly;
                  whole = takes.whole k.whole;
                })))
            | false ↦ λ far f.
                kept_same s (put s o y) q z (λ k. some_put s o k x y found)
                (use_elsewhere s o q x y found takes.quota far) (count q)
                ∙ all_at (λ q z. is_kept s q z) s.objects q z h.kept f
          ] refl there);
    }

length-resized : (n : ℕ) (bytes : List ℕ) → length (resized n bytes) ≡ n
length-resized n bytes =
    length-append (take n bytes) (replicate (n - length bytes) 0)
    ∙ (λ i. length-taken i + length-replicate {A = ℕ} (n - length bytes) 0 i) ∙ filled n (length bytes)
  where
    length-taken : length (take n bytes) ≡ min n (length bytes)
    length-taken = length-take n bytes

    filled : (n l : ℕ) → min n l + (n - l) ≡ n
    filled n l = omega arith

whole_pages : (pages : ℕ) → pages ≤ 16
    → (256 * pages == 256 * (256 * pages / 256) && nat_le (256 * pages) 4096) ≡ true
whole_pages p few =
    and_from (256 * p == 256 * (256 * p / 256)) (nat_le (256 * p) 4096)
    (eq-eqb (256 * p) (256 * (256 * p / 256)) (omega arith)) (grind arith)

-- a segment of so many pages within its quota
resized_takes : (pages : ℕ) → pages ≤ 16 → (x : Object) → is_kind kinds.Segment x ≡ true
    → 1 + pages ≤ x.quota → TakesPlace x (with_body (rebyte (resized (256 * pages))) x)
resized_takes pages few x segment room = at_body x.body segment
  where
    at_body : (y : body.Body) → is_kind kinds.Segment (record x { body = y }) ≡ true
        → TakesPlace (record x { body = y })
        (with_body (rebyte (resized (256 * pages))) (record x { body = y }))
    at_body (is.Segment bytes) segment = record {
      old_list = refl;
      list = refl;
      kind = refl;
      quota = refl;
      fixed = refl;
      cost = rw (length-resized (256 * pages) bytes) (omega arith);
      whole = λ w.
          let outer : ((is_stored x.label && length x.metadata == 64) ≡ true)
          × (is_whole_body (is.Segment bytes) ≡ true)
          = and_parts (is_stored x.label && length x.metadata == 64) (is_whole_body (is.Segment bytes)) w in
          and_from (is_stored x.label && length x.metadata == 64)
          (is_whole_body (is.Segment (resized (256 * pages) bytes))) outer.0
          (ap (λ n. n == 256 * (n / 256) && nat_le n 4096) (length-resized (256 * pages) bytes)
          ∙ whole_pages pages few);
    }
    at_body (is.Container avoid list) segment = absurd (cc)
    at_body (is.AddressSpace slots) segment = absurd (cc)
    at_body (is.Thread t) segment = absurd (cc)
    at_body (is.Gate g) segment = absurd (cc)
    at_body (is.Device packets) segment = absurd (cc)

pub resized_well_formed : (s : State) (o pages : ℕ) → pages ≤ 16
    → of_object false (is_kind kinds.Segment) (object_at s o) ≡ true → 1 + pages ≤ quota_at s o
    → is_well_formed s ≡ true
    → is_well_formed (changed s o (with_body (rebyte (resized (256 * pages))))) ≡ true
resized_well_formed s o pages few segment room h =
    elim (object_at s o)
    as (λ v. object_at s o ≡ v → is_well_formed
    (of_object s (λ x. put s o (with_body (rebyte (resized (256 * pages))) x)) v) ≡ true) [
      | None ↦ λ is. h
      | Some x ↦ λ is.
          well_formed_from (put s o (with_body (rebyte (resized (256 * pages))) x))
          (taken_sound s o x (with_body (rebyte (resized (256 * pages))) x) is
          (resized_takes pages few x
          (subst (λ v. of_object false (is_kind kinds.Segment) v ≡ true) is segment)
          (subst (λ v. 1 + pages ≤ of_object 0 (λ w. w.quota) v) is room)) (soundness_of s h))
    ] refl
