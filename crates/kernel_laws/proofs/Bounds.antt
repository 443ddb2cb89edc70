-- The quota of the root bounds objects and links.
use Rattle.std.proofs.Common.{◌≡◌, ◌≤◌, ◌<◌, ℕ, zero, suc, ◌+◌, ◌*◌, ◌==◌, ◌&&◌, ◌||◌, Bool, true, false, cond, not, nat_le}
use Rattle.std.proofs.Common.{nat_lt, List, [], ◌∷◌, length, Some, is_some, sum_by, refl, sym}
use Rattle.std.proofs.Common.{◌∙◌, ap, subst, arith}
use Rattle.std.specs.List.{list_all}
use Rattle.std.specs.Ordering.{nat_cmp}
use Rattle.std.specs.Map.{lookup}
use Rattle.std.specs.BTreeMap.{is_at}
use Rattle.std.proofs.lemmas.Bool.{and_parts, eqb-true, leb-true, ltb-true}
use Rattle.std.proofs.lemmas.List.Sums.{sum_by-cons}
use Rattle.base.specs.Live.{has}
use Rattle.base.specs.declared.kinds.Kind.TheVariants as kinds
use Rattle.kernel_rules.specs.State.{State, object_at, of_object, listed, own_cost, quota_at, use_of}
use Rattle.kernel_rules.specs.State.{is_kind}
use Rattle.kernel_rules.specs.WellFormed.{is_well_formed, is_kept, is_listed_rightly, listers, ids_rise}
use Rattle.kernel_rules.specs.declared.objects.Body as body
use Rattle.kernel_rules.specs.declared.objects.Body.TheVariants as is
use Rattle.kernel_rules.specs.declared.objects.Object.{Object}
use Rattle.kernel_rules.proofs.ListerLaws.{IsKept, kept_parts}
use Rattle.kernel_rules.proofs.LookupLaws.{at_self}
use Rattle.kernel_rules.proofs.RecordLaws.{same_id}
use Rattle.kernel_rules.proofs.WellFormedLaws.{Soundness, soundness_of}
use Rattle.kernel_laws.specs.Laws.{link_count}
use Rattle.kernel_laws.proofs.Sums.{once, sum_same, sum_plus, sum_map, sum_times, sum_swap, length-sum}
use Rattle.kernel_laws.proofs.Sums.{one_at, sum_listed}

-- each record is what its id is looked up as
record IsRecord (s : State) (e : ℕ × Object) : Type 0 where
  found : object_at s e.0 ≡ Some e.1
  kept : IsKept s e.0 e.1

-- the records from some on, each of which is looked up in all of them
abbrev AreRecords : State → List (ℕ × Object) → Type 0
AreRecords s [] = Unit {0}
AreRecords s (e ∷ es) = IsRecord s e × AreRecords s es

-- what is looked up past the first records
records_of : (s : State) (es : List (ℕ × Object)) → ids_rise es ≡ true
    → list_all (λ e. is_kept s e.0 e.1) es ≡ true
    → ((o : ℕ) (x : Object) → lookup (is_at (nat_cmp o)) es ≡ Some x → object_at s o ≡ Some x)
    → AreRecords s es
records_of s [] rise kept all = tt
records_of s (e ∷ es) rise kept all =
    let parts : (list_all (λ f. nat_lt e.0 f.0) es ≡ true) × (ids_rise es ≡ true) =
    and_parts (list_all (λ f. nat_lt e.0 f.0) es) (ids_rise es) rise in
    let held : (is_kept s e.0 e.1 ≡ true) × (list_all (λ e. is_kept s e.0 e.1) es ≡ true) =
    and_parts (is_kept s e.0 e.1) (list_all (λ e. is_kept s e.0 e.1) es) kept in (
      record {
        found = all e.0 e.1
            (ap (λ b. cond b (Some e.1) (lookup (is_at (nat_cmp e.0)) es)) (at_self e.0));
        kept = kept_parts s e.0 e.1 held.0;
      },
      records_of s es parts.1 held.1
          (λ o x there. all o x
          (ap (λ b. cond b (Some e.1) (lookup (is_at (nat_cmp o)) es)) (past o x es parts.0 there) ∙ there)),
    )
  where
    past : (o : ℕ) (x : Object) (es : List (ℕ × Object)) → list_all (λ f. nat_lt e.0 f.0) es ≡ true
        → lookup (is_at (nat_cmp o)) es ≡ Some x → is_at (nat_cmp o) e.0 ≡ false
    past o x es above there =
        elim (is_at (nat_cmp o) e.0) as (λ v. is_at (nat_cmp o) e.0 ≡ v → v ≡ false) [
          | true ↦ λ near.
              let on : o ≡ e.0 = same_id o e.0 near in
              absurd (never es above (subst (λ k. lookup (is_at (nat_cmp k)) es ≡ Some x) on there))
          | false ↦ λ far. refl
        ] refl
      where
        never : (fs : List (ℕ × Object)) → list_all (λ f. nat_lt e.0 f.0) fs ≡ true
            → lookup (is_at (nat_cmp e.0)) fs ≡ Some x → ⊥
        never [] h there = cc
        never (f ∷ fs) h there =
            let parts : (nat_lt e.0 f.0 ≡ true) × (list_all (λ f. nat_lt e.0 f.0) fs ≡ true) =
            and_parts (nat_lt e.0 f.0) (list_all (λ f. nat_lt e.0 f.0) fs) h in
            elim (is_at (nat_cmp e.0) f.0)
            as (λ v. is_at (nat_cmp e.0) f.0 ≡ v
            → cond v (Some f.1) (lookup (is_at (nat_cmp e.0)) fs) ≡ Some x → ⊥) [
              | true ↦ λ near g.
                  let on : e.0 ≡ f.0 = same_id e.0 f.0 near in
                  let less : e.0 < f.0 = ltb-true e.0 f.0 parts.0 in
                  omega arith
              | false ↦ λ far g. never fs parts.1 g
            ] refl there

-- terms that are at most others, for each record
sum_at_most : (s : State) (f g : ℕ × Object → ℕ) (es : List (ℕ × Object)) → AreRecords s es
    → ((e : ℕ × Object) → IsRecord s e → f e ≤ g e) → sum_by f es ≤ sum_by g es
sum_at_most s f g [] all less = omega arith
sum_at_most s f g (e ∷ es) all less =
    let first = sum_by-cons f e es in
    let second = sum_by-cons g e es in
    let here = less e all.0 in
    let rest = sum_at_most s f g es all.1 less in
    omega arith

costs : (b : body.Body) → 1 ≤ own_cost b
costs (is.Segment bytes) = omega arith
costs (is.Container avoid list) = omega arith
costs (is.AddressSpace slots) = omega arith
costs (is.Thread t) = omega arith
costs (is.Gate g) = omega arith
costs (is.Device packets) = omega arith

-- what it uses, by its body
use_is : (s : State) (e : ℕ × Object) → IsRecord s e
    → own_cost e.1.body + sum_by (quota_at s) (listed e.1.body) ≤ e.1.quota
use_is s e r =
    subst (λ v. of_object 0 (λ x. own_cost x.body) v + sum_by (quota_at s) (of_object [] (λ x. listed x.body) v)
    ≤ e.1.quota) r.found (leb-true (use_of s e.0) e.1.quota r.kept.within)

-- the records that list an id
abbrev lists_with : State → ℕ → ℕ
lists_with s o = sum_by (λ e. once (has (listed e.1.body) o)) s.objects

listers_are : (s : State) (o : ℕ) → listers s o ≡ lists_with s o
listers_are s o = sum_map (λ e. cond (has e.1 o) 1 0) (λ e. (e.0, listed e.1.body)) s.objects

-- how many lists have it: none the root's, some any other's
rightly_some : (n o : ℕ) (x : Object) → is_listed_rightly n o x ≡ true → (o == 1) ≡ false → 1 ≤ n
rightly_some n o x h other =
    second (is_kind kinds.Container x) (n == 1) (nat_le 1 n) (nat_le n 1 || x.fixed)
    (subst (λ v. cond v (n == 0)
    (cond (is_kind kinds.Container x) (n == 1) (nat_le 1 n && (nat_le n 1 || x.fixed))) ≡ true) other h)
  where
    second : (b one some fit : Bool) → cond b (n == 1) (nat_le 1 n && fit) ≡ true → 1 ≤ n
    second true one some fit h = let is : n ≡ 1 = eqb-true n 1 h in omega arith
    second false one some fit h = leb-true 1 n (and_parts (nat_le 1 n) fit h).0

-- how often records are listed, each time with a weight
abbrev weighed : State → (ℕ → ℕ) → ℕ
weighed s w = sum_by (λ f. lists_with s f.0 * w f.0) s.objects

-- the listed weights, by who is listed
weighed_is : (s : State) (w : ℕ → ℕ)
    → sum_by (λ e. sum_by (λ f. once (has (listed e.1.body) f.0) * w f.0) s.objects) s.objects ≡ weighed s w
weighed_is s w =
    sum_swap (λ e f. once (has (listed e.1.body) f.0) * w f.0) s.objects s.objects
    ∙ sum_same (λ f. sum_by (λ e. once (has (listed e.1.body) f.0) * w f.0) s.objects)
    (λ f. lists_with s f.0 * w f.0) s.objects
    (λ f. sum_times (λ e. once (has (listed e.1.body) f.0)) (w f.0) s.objects)

-- the weights of what a record lists
listed_is : (s : State) (w : ℕ → ℕ) → ids_rise s.objects ≡ true → (e : ℕ × Object) → IsRecord s e
    → sum_by w (listed e.1.body) ≡ sum_by (λ f. once (has (listed e.1.body) f.0) * w f.0) s.objects
listed_is s w rise e r = sum_listed w (listed e.1.body) s.objects rise r.kept.distinct r.kept.recorded

same_le : (a b : ℕ) → a ≡ b → a ≤ b
same_le a b h = omega arith

at_least : (a p : ℕ) → 1 ≤ p → a ≤ a * p
at_least a p hp = grind arith

-- a number of lists and a quota, neither of which is 0
both_some : (a q : ℕ) → 1 ≤ a → 1 ≤ q → a + q ≤ a * q + 1
both_some zero q ha hq = absurd (omega arith)
both_some (suc a) q ha hq =
    let more : a ≤ a * q = at_least a q hq in
    let spread : suc a * q ≡ a * q + q = grind arith in
    omega arith

-- what the lists with a record give for its quota, and for it
quota_covered : (s : State) (f : ℕ × Object) → IsRecord s f
    → lists_with s f.0 * 1 + f.1.quota
    ≤ (lists_with s f.0 * quota_at s f.0 + once (f.0 == 1) * quota_at s f.0) + once (not (f.0 == 1))
quota_covered s f r =
    let quota : quota_at s f.0 ≡ f.1.quota = ap (of_object 0 (λ x. x.quota)) r.found in
    let cost : 1 ≤ f.1.quota = least (own_cost f.1.body) (sum_by (quota_at s) (listed f.1.body)) f.1.quota
    (costs f.1.body) (use_is s f r) in
    elim (f.0 == 1)
    as (λ v. (f.0 == 1) ≡ v → lists_with s f.0 * 1 + f.1.quota
    ≤ (lists_with s f.0 * quota_at s f.0 + once v * quota_at s f.0) + once (not v)) [
      | true ↦ λ is.
          at_root (lists_with s f.0) (quota_at s f.0) f.1.quota quota cost
      | false ↦ λ is.
          let some : 1 ≤ lists_with s f.0 =
          subst (λ n. 1 ≤ n) (listers_are s f.0) (rightly_some (listers s f.0) f.0 f.1 r.kept.rightly is) in
          elsewhere (lists_with s f.0) (quota_at s f.0) f.1.quota quota cost some
    ] refl
  where
    least : (c u q : ℕ) → 1 ≤ c → c + u ≤ q → 1 ≤ q
    least c u q h g = omega arith

    at_root : (a p q : ℕ) → p ≡ q → 1 ≤ q → a * 1 + q ≤ (a * p + 1 * p) + 0
    at_root a p q same some =
        let more : a ≤ a * p = at_least a p (subst (λ n. 1 ≤ n) (sym same) some) in
        omega arith

    elsewhere : (a p q : ℕ) → p ≡ q → 1 ≤ q → 1 ≤ a → a * 1 + q ≤ (a * p + 0 * p) + 1
    elsewhere a p q same some lists =
        let covered : a + p ≤ a * p + 1 = both_some a p lists (subst (λ n. 1 ≤ n) (sym same) some) in
        omega arith

-- how many records are not the root's
abbrev others : State → ℕ
others s = sum_by (λ f. once (not (f.0 == 1))) s.objects

-- whatever is not the root is listed
listed_once : (s : State) (f : ℕ × Object) → IsRecord s f → once (not (f.0 == 1)) ≤ lists_with s f.0 * 1
listed_once s f r =
    elim (f.0 == 1) as (λ v. (f.0 == 1) ≡ v → once (not v) ≤ lists_with s f.0 * 1) [
      | true ↦ λ is. omega arith
      | false ↦ λ is.
          let some : 1 ≤ lists_with s f.0 =
          subst (λ n. 1 ≤ n) (listers_are s f.0) (rightly_some (listers s f.0) f.0 f.1 r.kept.rightly is) in
          omega arith
    ] refl

-- own costs, objects and links
pub root_bounds : (s : State) (root : Object) → is_well_formed s ≡ true → object_at s 1 ≡ Some root
    → (sum_by (λ e. own_cost e.1.body) s.objects ≤ root.quota) × (length s.objects ≤ root.quota)
    × (link_count s + 1 ≤ root.quota)
root_bounds s root wf there =
    let h : Soundness s = soundness_of s wf in
    let all : AreRecords s s.objects = records_of s s.objects h.rise h.kept (λ o x found. found) in
    let q : ℕ → ℕ = quota_at s in
    let recorded : is_some (lookup (is_at (nat_cmp 1)) s.objects) ≡ true = ap is_some there in
    let used : sum_by (λ e. own_cost e.1.body + sum_by q (listed e.1.body)) s.objects
    ≤ sum_by (λ e. e.1.quota) s.objects
    = sum_at_most s (λ e. own_cost e.1.body + sum_by q (listed e.1.body)) (λ e. e.1.quota) s.objects all
    (use_is s) in
    let parted : sum_by (λ e. own_cost e.1.body + sum_by q (listed e.1.body)) s.objects
    ≡ sum_by (λ e. own_cost e.1.body) s.objects + sum_by (λ e. sum_by q (listed e.1.body)) s.objects
    = sum_plus (λ e. own_cost e.1.body) (λ e. sum_by q (listed e.1.body)) s.objects in
    let held : weighed s q ≤ sum_by (λ e. sum_by q (listed e.1.body)) s.objects
    = subst (λ n. n ≤ sum_by (λ e. sum_by q (listed e.1.body)) s.objects) (weighed_is s q)
    (sum_at_most s (λ e. sum_by (λ f. once (has (listed e.1.body) f.0) * q f.0) s.objects)
    (λ e. sum_by q (listed e.1.body)) s.objects all
    (λ e r. same_le _ _ (sym (listed_is s q h.rise e r)))) in
    let counted : sum_by (λ e. length (listed e.1.body)) s.objects ≤ weighed s (λ i. 1)
    = subst (λ n. sum_by (λ e. length (listed e.1.body)) s.objects ≤ n) (weighed_is s (λ i. 1))
    (sum_at_most s (λ e. length (listed e.1.body))
    (λ e. sum_by (λ f. once (has (listed e.1.body) f.0) * 1) s.objects) s.objects all
    (λ e r. same_le _ _ (sym (length-sum (listed e.1.body)) ∙ listed_is s (λ i. 1) h.rise e r))) in
    let links : link_count s ≡ sum_by (λ e. length (listed e.1.body)) s.objects
    = sum_map (λ e. length e.1) (λ e. (e.0, listed e.1.body)) s.objects in
    let paid : length s.objects ≤ sum_by (λ e. own_cost e.1.body) s.objects
    = subst (λ n. n ≤ sum_by (λ e. own_cost e.1.body) s.objects) (length-sum s.objects)
    (sum_at_most s (λ e. 1) (λ e. own_cost e.1.body) s.objects all (λ e r. costs e.1.body)) in
    let covered : sum_by (λ f. lists_with s f.0 * 1 + f.1.quota) s.objects
    ≤ sum_by (λ f. (lists_with s f.0 * q f.0 + once (f.0 == 1) * q f.0) + once (not (f.0 == 1))) s.objects
    = sum_at_most s (λ f. lists_with s f.0 * 1 + f.1.quota)
    (λ f. (lists_with s f.0 * q f.0 + once (f.0 == 1) * q f.0) + once (not (f.0 == 1))) s.objects all
    (quota_covered s) in
    let somewhere : others s ≤ weighed s (λ i. 1)
    = sum_at_most s (λ f. once (not (f.0 == 1))) (λ f. lists_with s f.0 * 1) s.objects all (listed_once s) in
    let left : sum_by (λ f. lists_with s f.0 * 1 + f.1.quota) s.objects
    ≡ weighed s (λ i. 1) + sum_by (λ e. e.1.quota) s.objects
    = sum_plus (λ f. lists_with s f.0 * 1) (λ f. f.1.quota) s.objects in
    let right : sum_by (λ f. (lists_with s f.0 * q f.0 + once (f.0 == 1) * q f.0) + once (not (f.0 == 1)))
    s.objects
    ≡ sum_by (λ f. lists_with s f.0 * q f.0 + once (f.0 == 1) * q f.0) s.objects + others s
    = sum_plus (λ f. lists_with s f.0 * q f.0 + once (f.0 == 1) * q f.0) (λ f. once (not (f.0 == 1))) s.objects
    in
    let middle : sum_by (λ f. lists_with s f.0 * q f.0 + once (f.0 == 1) * q f.0) s.objects
    ≡ weighed s q + sum_by (λ f. once (f.0 == 1) * q f.0) s.objects
    = sum_plus (λ f. lists_with s f.0 * q f.0) (λ f. once (f.0 == 1) * q f.0) s.objects in
    let at_root : sum_by (λ f. once (f.0 == 1) * q f.0) s.objects ≡ root.quota
    = one_at q 1 s.objects h.rise recorded ∙ ap (of_object 0 (λ x. x.quota)) there in
    let apart : sum_by (λ f. once (f.0 == 1) * 1 + once (not (f.0 == 1))) s.objects ≡ length s.objects
    = sum_same (λ f. once (f.0 == 1) * 1 + once (not (f.0 == 1))) (λ f. 1) s.objects (λ f. one_of (f.0 == 1))
    ∙ length-sum s.objects in
    let rest : sum_by (λ f. once (f.0 == 1) * 1 + once (not (f.0 == 1))) s.objects ≡ 1 + others s
    = sum_plus (λ f. once (f.0 == 1) * 1) (λ f. once (not (f.0 == 1))) s.objects
    ∙ ap (λ n. n + others s) (one_at (λ i. 1) 1 s.objects h.rise recorded) in
    (omega arith, omega arith, omega arith)
  where
    one_of : (b : Bool) → once b * 1 + once (not b) ≡ 1
    one_of true = refl
    one_of false = refl
