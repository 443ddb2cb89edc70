-- Where each list's ids have smaller quotas than the list's owner, and each id but the root stands in a list, each record is
-- live: going up from any record quotas rise, and must end at the root.
use Rattle.std.proofs.Common.{◌≡◌, ℕ, zero, suc, ◌+◌, ◌≤◌, ◌<◌, ◌==◌, ◌&&◌, ◌||◌, Bool, true, false, cond, not}
use Rattle.std.proofs.Common.{List, [], ◌∷◌, Some, is_some, sum_by, refl, sym, ap, subst, arith, inl, inr}
use Rattle.std.specs.List.{list_all}
use Rattle.std.specs.Ordering.{nat_cmp}
use Rattle.std.specs.Map.{lookup}
use Rattle.std.specs.BTreeMap.{is_at}
use Rattle.std.proofs.lemmas.Bool.{and_from, both_ways, eqb-true, eq-eqb}
use Rattle.std.proofs.lemmas.List.Sums.{sum_by-cons}
use Rattle.base.specs.Live.{has, links, is_live, are_live}
use Rattle.base.proofs.LiveLaw.{live_from_path, or_left, or_right}
use Rattle.kernel_rules.specs.State.{lists_of, listed}
use Rattle.kernel_rules.specs.declared.objects.Object.{Object}
use Rattle.kernel_rules.proofs.GrowLaws.{live_link}
use Rattle.kernel_rules.proofs.LookupLaws.{at_self}
use Rattle.plain_state.specs.Settled.{In, is_listed, is_settled}

-- what a container lists has a smaller quota than the container
abbrev pub Descends : List (ℕ × Object) → Type 0
Descends es =
    (e f : ℕ × Object) → In e es → In f es → has (listed e.1.body) f.0 ≡ true → f.1.quota < e.1.quota

-- a quota is at most the quotas of all
most_in : (es : List (ℕ × Object)) (e : ℕ × Object) → In e es → e.1.quota ≤ sum_by (λ x. x.1.quota) es
most_in [] e i = absurd i
most_in (x ∷ es) e (inl same) =
    let all = sum_by-cons (λ (z : ℕ × Object). z.1.quota) x es in
    let quota : e.1.quota ≡ x.1.quota = ap (λ (z : ℕ × Object). z.1.quota) same in
    omega arith
most_in (x ∷ es) e (inr more) =
    let all = sum_by-cons (λ (z : ℕ × Object). z.1.quota) x es in
    let rest = most_in es e more in
    omega arith

-- what stands in a list stands in the list of some record
lister_in : (es : List (ℕ × Object)) (o : ℕ) → is_listed es o ≡ true
    → (e : ℕ × Object) × In e es × (has (listed e.1.body) o ≡ true)
lister_in [] o h = absurd (both_ways false refl h)
lister_in (x ∷ es) o h =
    elim (has (listed x.1.body) o) as (λ v. has (listed x.1.body) o ≡ v → (v || is_listed es o) ≡ true
    → (e : ℕ × Object) × In e (x ∷ es) × (has (listed e.1.body) o ≡ true)) [
      | true ↦ λ is l. (x, inl refl, is)
      | false ↦ λ is l. let rest = lister_in es o l in (rest.0, inr rest.1, rest.2)
    ] refl h

links_in : (es : List (ℕ × Object)) (e : ℕ × Object) (o : ℕ) → In e es → has (listed e.1.body) o ≡ true
    → links (lists_of es) e.0 o ≡ true
links_in [] e o i h = absurd i
links_in (x ∷ es) e o (inl same) h =
    or_left ((e.0 == x.0) && has (listed x.1.body) o) (links (lists_of es) e.0 o)
    (and_from (e.0 == x.0) (has (listed x.1.body) o) (eq-eqb e.0 x.0 (ap (λ (z : ℕ × Object). z.0) same))
    (subst (λ (z : ℕ × Object). has (listed z.1.body) o ≡ true) same h))
links_in (x ∷ es) e o (inr more) h =
    or_right ((e.0 == x.0) && has (listed x.1.body) o) (links (lists_of es) e.0 o) (links_in es e o more h)

recorded_in : (es : List (ℕ × Object)) (e : ℕ × Object) → In e es → is_some (lookup (is_at (nat_cmp e.0)) es) ≡ true
recorded_in [] e i = absurd i
recorded_in (x ∷ es) e (inl same) =
    let at : is_at (nat_cmp e.0) x.0 ≡ true
    = subst (λ k. is_at (nat_cmp e.0) k ≡ true) (ap (λ (z : ℕ × Object). z.0) same) (at_self e.0) in
    subst (λ v. is_some (cond v (Some x.1) (lookup (is_at (nat_cmp e.0)) es)) ≡ true) (sym at) refl
recorded_in (x ∷ es) e (inr more) =
    elim (is_at (nat_cmp e.0) x.0)
    as (λ v. is_some (cond v (Some x.1) (lookup (is_at (nat_cmp e.0)) es)) ≡ true) [
      | true ↦ refl
      | false ↦ recorded_in es e more
    ]

-- what is settled, recorded and not the root stands in a list
listed_then : (some l : Bool) → (false || not some || l) ≡ true → some ≡ true → l ≡ true
listed_then true l h s = h
listed_then false l h s = absurd (both_ways false refl s)

module _ (es : List (ℕ × Object)) (descends : Descends es) (settled : (q : ℕ) → is_settled es q ≡ true) where
  abbrev all_quotas : ℕ
  all_quotas = sum_by (λ e. e.1.quota) es

  live_from : (n : ℕ) (e : ℕ × Object) → In e es → all_quotas < n + e.1.quota → is_live (lists_of es) e.0 ≡ true
  live_from zero e i room =
      let most = most_in es e i in
      absurd (omega arith)
  live_from (suc n) e i room =
      elim (e.0 == 1)
      as (λ v. (e.0 == 1) ≡ v → (v || not (is_some (lookup (is_at (nat_cmp e.0)) es)) || is_listed es e.0) ≡ true
      → is_live (lists_of es) e.0 ≡ true) [
        | true ↦ λ root h. live_from_path (lists_of es) e.0 ([], sym (eqb-true e.0 1 root))
        | false ↦ λ other h.
            above (listed_then (is_some (lookup (is_at (nat_cmp e.0)) es)) (is_listed es e.0) h (recorded_in es e i))
            (λ f j less. live_from n f j less)
      ] refl (settled e.0)
    where
      above : is_listed es e.0 ≡ true
          → ((f : ℕ × Object) → In f es → all_quotas < n + f.1.quota → is_live (lists_of es) f.0 ≡ true)
          → is_live (lists_of es) e.0 ≡ true
      above listed further =
          let from = lister_in es e.0 listed in
          let less : e.1.quota < from.0.1.quota = descends from.0 e from.1 i from.2 in
          live_link (lists_of es) from.0.0 e.0 (further from.0 from.1 (omega arith))
          (links_in es from.0 e.0 from.1 from.2)

  all_in : (ds : List (ℕ × Object)) → ((e : ℕ × Object) → In e ds → is_live (lists_of es) e.0 ≡ true)
      → list_all (λ e. is_live (lists_of es) e.0) (lists_of ds) ≡ true
  all_in [] h = refl
  all_in (d ∷ ds) h =
      and_from (is_live (lists_of es) d.0) (list_all (λ e. is_live (lists_of es) e.0) (lists_of ds))
      (h d (inl refl)) (all_in ds (λ e i. h e (inr i)))

  -- each record is live
  pub live_by_descent : are_live (lists_of es) ≡ true
  live_by_descent = all_in es (λ e i. live_from (suc all_quotas) e i (omega arith))
