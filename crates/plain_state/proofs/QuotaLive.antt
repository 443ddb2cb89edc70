-- Where ids rise and each object is kept, each is live: what a container lists has a smaller quota
-- than the container, so lists can't lead round in a circle.
use Rattle.std.proofs.Common.{◌≡◌, ℕ, ◌+◌, ◌≤◌, ◌<◌, ◌==◌, ◌&&◌, ◌||◌, Bool, true, false, cond, not}
use Rattle.std.proofs.Common.{nat_le, nat_lt, List, [], ◌∷◌, Option, Some, None, is_some, sum_by, refl, sym, ◌∙◌, ap, subst, arith}
use Rattle.std.proofs.Common.{inl, inr}
use Rattle.std.specs.List.{list_all}
use Rattle.std.specs.Ordering.{nat_cmp}
use Rattle.std.specs.Map.{lookup}
use Rattle.std.specs.BTreeMap.{is_at}
use Rattle.std.proofs.lemmas.Bool.{and_parts, both_ways, eqb-true, leb-true, ltb-true}
use Rattle.std.proofs.lemmas.List.Sums.{sum_by-cons}
use Rattle.base.specs.Live.{has, are_live}
use Rattle.base.specs.declared.kinds.Kind.TheVariants as kinds
use Rattle.kernel_rules.specs.State.{State, lists_of, object_at, of_object, listed, own_cost, quota_at, use_of, is_kind}
use Rattle.kernel_rules.specs.WellFormed.{is_kept, is_listed_rightly, listers, ids_rise}
use Rattle.kernel_rules.specs.declared.objects.Body as body
use Rattle.kernel_rules.specs.declared.objects.Body.TheVariants as is
use Rattle.kernel_rules.specs.declared.objects.Object.{Object}
use Rattle.kernel_rules.proofs.ListerLaws.{IsKept, kept_parts}
use Rattle.kernel_rules.proofs.LookupLaws.{all_at, at_self}
use Rattle.kernel_rules.proofs.RecordLaws.{same_id}
use Rattle.plain_state.specs.Settled.{In, is_listed, is_settled}
use Rattle.plain_state.proofs.DescentLaws.{Descends, live_by_descent}

costs : (b : body.Body) → 1 ≤ own_cost b
costs (is.Segment bytes) = omega arith
costs (is.Container avoid list) = omega arith
costs (is.AddressSpace slots) = omega arith
costs (is.Thread t) = omega arith
costs (is.Gate g) = omega arith
costs (is.Device packets) = omega arith

among : (f : ℕ → ℕ) (ids : List ℕ) (o : ℕ) → has ids o ≡ true → f o ≤ sum_by f ids
among f [] o h = absurd (both_ways false refl h)
among f (i ∷ ids) o h =
    let all = sum_by-cons f i ids in
    elim (o == i) as (λ v. (o == i) ≡ v → (v || has ids o) ≡ true → f o ≤ sum_by f (i ∷ ids)) [
      | true ↦ λ is l.
          let on : f o ≡ f i = ap f (eqb-true o i is) in
          omega arith
      | false ↦ λ is l.
          let rest = among f ids o l in
          omega arith
    ] refl h

-- one where it holds
abbrev once : Bool → ℕ
once b = cond b 1 0

neither : (a b : Bool) → (a || b) ≡ false → (a ≡ false) × (b ≡ false)
neither true b h = absurd (both_ways true h refl)
neither false b h = (refl, h)

-- no list has it
unlisted : (o : ℕ) (es : List (ℕ × Object)) → is_listed es o ≡ false
    → sum_by (λ e. once (has e.1 o)) (lists_of es) ≡ 0
unlisted o [] h = refl
unlisted o (e ∷ es) h =
    let parts = neither (has (listed e.1.body) o) (is_listed es o) h in
    let all = sum_by-cons (λ (e : ℕ × List ℕ). once (has e.1 o)) (e.0, listed e.1.body) (lists_of es) in
    let none : once (has (listed e.1.body) o) ≡ 0 = ap once parts.0 in
    let rest = unlisted o es parts.1 in
    omega arith

-- each but the root is in some list
some_list : (n o : ℕ) (x : Object) → is_listed_rightly n o x ≡ true → (o == 1) ≡ false → 1 ≤ n
some_list n o x h other =
    second (is_kind kinds.Container x) (nat_le n 1 || x.fixed)
    (subst (λ v. cond v (n == 0)
    (cond (is_kind kinds.Container x) (n == 1) (nat_le 1 n && (nat_le n 1 || x.fixed))) ≡ true) other h)
  where
    second : (b fit : Bool) → cond b (n == 1) (nat_le 1 n && fit) ≡ true → 1 ≤ n
    second true fit h = let is : n ≡ 1 = eqb-true n 1 h in omega arith
    second false fit h = leb-true 1 n (and_parts (nat_le 1 n) fit h).0

all_in : (p : ℕ → Bool) (es : List (ℕ × Object)) (e : ℕ × Object) → list_all (λ f. p f.0) es ≡ true → In e es → p e.0 ≡ true
all_in p [] e h i = absurd i
all_in p (x ∷ es) e h (inl same) =
    ap (λ (z : ℕ × Object). p z.0) same ∙ (and_parts (p x.0) (list_all (λ f. p f.0) es) h).0
all_in p (x ∷ es) e h (inr more) = all_in p es e (and_parts (p x.0) (list_all (λ f. p f.0) es) h).1 more

-- a record is found under its id
found_in : (es : List (ℕ × Object)) (e : ℕ × Object) → ids_rise es ≡ true → In e es
    → lookup (is_at (nat_cmp e.0)) es ≡ Some e.1
found_in [] e rise i = absurd i
found_in (x ∷ es) e rise (inl same) =
    let at : is_at (nat_cmp e.0) x.0 ≡ true
    = subst (λ k. is_at (nat_cmp e.0) k ≡ true) (ap (λ (z : ℕ × Object). z.0) same) (at_self e.0) in
    subst (λ v. cond v (Some x.1) (lookup (is_at (nat_cmp e.0)) es) ≡ Some e.1) (sym at)
    (ap (λ (z : ℕ × Object). Some z.1) (sym same))
found_in (x ∷ es) e rise (inr more) =
    let parts = and_parts (list_all (λ f. nat_lt x.0 f.0) es) (ids_rise es) rise in
    elim (is_at (nat_cmp e.0) x.0)
    as (λ v. is_at (nat_cmp e.0) x.0 ≡ v → cond v (Some x.1) (lookup (is_at (nat_cmp e.0)) es) ≡ Some e.1) [
      | true ↦ λ at.
          let same : e.0 ≡ x.0 = same_id e.0 x.0 at in
          let less : x.0 < e.0 = ltb-true x.0 e.0 (all_in (λ k. nat_lt x.0 k) es e parts.0 more) in
          absurd (omega arith)
      | false ↦ λ at. found_in es e parts.1 more
    ] refl

module _ (s : State) (kept : list_all (λ e. is_kept s e.0 e.1) s.objects ≡ true) where
  kept_at : (o : ℕ) (x : Object) → object_at s o ≡ Some x → IsKept s o x
  kept_at o x found = kept_parts s o x (all_at (λ q z. is_kept s q z) s.objects o x kept found)

  -- what a container lists has a smaller quota
  smaller : (q o : ℕ) (y x : Object) → object_at s q ≡ Some y → object_at s o ≡ Some x
      → has (listed y.body) o ≡ true → x.quota < y.quota
  smaller q o y x at_q at_o h =
      let used : own_cost y.body + sum_by (quota_at s) (listed y.body) ≤ y.quota
      = subst (λ v. of_object 0 (λ x. own_cost x.body) v + sum_by (quota_at s) (of_object [] (λ x. listed x.body) v)
      ≤ y.quota) at_q (leb-true (use_of s q) y.quota (kept_at q y at_q).within) in
      let part : quota_at s o ≤ sum_by (quota_at s) (listed y.body) = among (quota_at s) (listed y.body) o h in
      let same : quota_at s o ≡ x.quota = ap (of_object 0 (λ x. x.quota)) at_o in
      let cost = costs y.body in
      omega arith

  pub descends : ids_rise s.objects ≡ true → Descends s.objects
  descends rise e f i j h =
      smaller e.0 f.0 e.1 f.1 (found_in s.objects e rise i) (found_in s.objects f rise j) h

  -- each id is settled
  pub settled : (o : ℕ) → is_settled s.objects o ≡ true
  settled o = at_object (object_at s o) refl
    where
      listed_of : (x : Object) → object_at s o ≡ Some x → (o == 1) ≡ false → (l : Bool)
          → is_listed s.objects o ≡ l → l ≡ true
      listed_of x found other true is = refl
      listed_of x found other false is =
          let many : 1 ≤ listers s o = some_list (listers s o) o x (kept_at o x found).rightly other in
          let no : listers s o ≡ 0 = unlisted o s.objects is in
          absurd (omega arith)

      last : (r l : Bool) → (r ≡ false → l ≡ true) → (r || false || l) ≡ true
      last true l h = refl
      last false l h = h refl

      first : (r l : Bool) → (r || true || l) ≡ true
      first true l = refl
      first false l = refl

      at_object : (v : Option Object) → object_at s o ≡ v → is_settled s.objects o ≡ true
      at_object None found =
          subst (λ w. ((o == 1) || not (is_some w) || is_listed s.objects o) ≡ true) (sym found)
          (first (o == 1) (is_listed s.objects o))
      at_object (Some x) found =
          subst (λ w. ((o == 1) || not (is_some w) || is_listed s.objects o) ≡ true) (sym found)
          (last (o == 1) (is_listed s.objects o)
          (λ other. listed_of x found other (is_listed s.objects o) refl))

  -- each object is live
  pub live_by_quotas : ids_rise s.objects ≡ true → are_live (lists_of s.objects) ≡ true
  live_by_quotas rise = live_by_descent s.objects (descends rise) settled
