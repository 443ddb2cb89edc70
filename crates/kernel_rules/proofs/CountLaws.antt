-- How many lists have an id.
use Rattle.std.proofs.Common.{◌≡◌, ◌≢◌, ℕ, ◌+◌, ◌≤◌, Bool, true, false, cond, ◌||◌, ◌&&◌, ◌==◌}
use Rattle.std.proofs.Common.{nat_le, List, [], ◌∷◌, Some, sum_by, refl, sym, ◌∙◌, ap, subst, arith}
use Rattle.std.specs.Ordering.{nat_cmp}
use Rattle.std.specs.Map.{lookup, set_value}
use Rattle.std.specs.BTreeMap.{is_at}
use Rattle.std.proofs.lemmas.Bool.{eqb-true, leb-true}
use Rattle.std.proofs.lemmas.List.Sums.{sum_by-cons}
use Rattle.base.specs.Live.{has}
use Rattle.base.specs.declared.kinds.Kind.TheVariants as kinds
use Rattle.kernel_rules.specs.State.{listed, lists_of, is_kind}
use Rattle.kernel_rules.specs.Changes.{listing}
use Rattle.kernel_rules.specs.WellFormed.{is_listed_rightly}
use Rattle.kernel_rules.specs.declared.objects.Object.{Object}
use Rattle.kernel_rules.proofs.ListingLaws.{has_new}
use Rattle.kernel_rules.proofs.RecordLaws.{same_id}

-- one where it holds
abbrev pub once : Bool → ℕ
once b = cond b 1 0

-- whether an entry's list has o, as a number
abbrev pub counts : ℕ → ℕ × List ℕ → ℕ
counts o e = once (has e.1 o)

-- the count of a longer list
count-cons : (o : ℕ) (e : ℕ × Object) (es : List (ℕ × Object))
    → sum_by (counts o) (lists_of (e ∷ es))
    ≡ once (has (listed e.1.body) o) + sum_by (counts o) (lists_of es)
count-cons o e es = sum_by-cons (counts o) (e.0, listed e.1.body) (lists_of es)

-- a list that has an id counts
pub counted_one : (q o : ℕ) (es : List (ℕ × Object)) (x : Object) → lookup (is_at (nat_cmp q)) es ≡ Some x
    → has (listed x.body) o ≡ true → 1 ≤ sum_by (counts o) (lists_of es)
counted_one q o [] x found h = absurd (cc)
counted_one q o (e ∷ es) x found h =
    elim (is_at (nat_cmp q) e.0)
    as (λ v. cond v (Some e.1) (lookup (is_at (nat_cmp q)) es) ≡ Some x
    → 1 ≤ sum_by (counts o) (lists_of (e ∷ es))) [
      | true ↦ λ f.
          let is_x : e.1 ≡ x = cc in
          let here : once (has (listed e.1.body) o) ≡ 1 =
          ap (λ (z : Object). once (has (listed z.body) o)) is_x ∙ ap once h in
          let all = count-cons o e es in
          omega arith
      | false ↦ λ f.
          let rest : 1 ≤ sum_by (counts o) (lists_of es) = counted_one q o es x f h in
          let all = count-cons o e es in
          omega arith
    ] found

-- two lists that have it count twice
pub counted_two : (q d o : ℕ) (es : List (ℕ × Object)) (x y : Object) → q ≢ d
    → lookup (is_at (nat_cmp q)) es ≡ Some x → lookup (is_at (nat_cmp d)) es ≡ Some y
    → has (listed x.body) o ≡ true → has (listed y.body) o ≡ true
    → 2 ≤ sum_by (counts o) (lists_of es)
counted_two q d o [] x y other fq fd hx hy = absurd (cc)
counted_two q d o (e ∷ es) x y other fq fd hx hy =
    elim (is_at (nat_cmp q) e.0)
    as (λ v. is_at (nat_cmp q) e.0 ≡ v → cond v (Some e.1) (lookup (is_at (nat_cmp q)) es) ≡ Some x
    → 2 ≤ sum_by (counts o) (lists_of (e ∷ es))) [
      | true ↦ λ at_q f.
          elim (is_at (nat_cmp d) e.0)
          as (λ v. is_at (nat_cmp d) e.0 ≡ v → cond v (Some e.1) (lookup (is_at (nat_cmp d)) es) ≡ Some y
          → 2 ≤ sum_by (counts o) (lists_of (e ∷ es))) [
            | true ↦ λ at_d g. absurd (other (same_id q e.0 at_q ∙ sym (same_id d e.0 at_d)))
            | false ↦ λ at_d g. one_more e.1 x f hx (counted_one d o es y g hy)
          ] refl fd
      | false ↦ λ at_q f.
          elim (is_at (nat_cmp d) e.0)
          as (λ v. cond v (Some e.1) (lookup (is_at (nat_cmp d)) es) ≡ Some y
          → 2 ≤ sum_by (counts o) (lists_of (e ∷ es))) [
            | true ↦ λ g. one_more e.1 y g hy (counted_one q o es x f hx)
            | false ↦ λ g.
                let rest : 2 ≤ sum_by (counts o) (lists_of es) =
                counted_two q d o es x y other f g hx hy in
                let all = count-cons o e es in
                omega arith
          ] fd
    ] refl fq
  where
    one_more : (z w : Object) → Some z ≡ Some w → has (listed w.body) o ≡ true
        → 1 ≤ sum_by (counts o) (lists_of es) → 2 ≤ sum_by (counts o) (lists_of ((e.0, z) ∷ es))
    one_more z w f h rest =
        let is_w : z ≡ w = cc in
        let here : once (has (listed z.body) o) ≡ 1 =
        ap (λ (v : Object). once (has (listed v.body) o)) is_w ∙ ap once h in
        let all = count-cons o (e.0, z) es in
        omega arith

-- a container that lists o, which it did not, is one list more that has it
pub count_linked : (d o : ℕ) (es : List (ℕ × Object)) (y : Object) → lookup (is_at (nat_cmp d)) es ≡ Some y
    → is_kind kinds.Container y ≡ true → has (listed y.body) o ≡ false
    → sum_by (counts o) (lists_of (set_value (is_at (nat_cmp d)) es (listing o y)))
    ≡ 1 + sum_by (counts o) (lists_of es)
count_linked d o [] y found kind h = absurd (cc)
count_linked d o (e ∷ es) y found kind h =
    elim (is_at (nat_cmp d) e.0) as (λ v. cond v (Some e.1) (lookup (is_at (nat_cmp d)) es) ≡ Some y
    → sum_by (counts o)
    (lists_of (cond v ((e.0, listing o y) ∷ es) (e ∷ set_value (is_at (nat_cmp d)) es (listing o y))))
    ≡ 1 + sum_by (counts o) (lists_of (e ∷ es))) [
      | true ↦ λ f.
          let is_y : e.1 ≡ y = cc in
          let before : once (has (listed e.1.body) o) ≡ 0 =
          ap (λ (z : Object). once (has (listed z.body) o)) is_y ∙ ap once h in
          let after : once (has (listed (listing o y).body) o) ≡ 1 =
          ap once (has_new y o kind) in
          let old = count-cons o e es in
          let new = count-cons o (e.0, listing o y) es in
          let all : sum_by (counts o) (lists_of ((e.0, listing o y) ∷ es))
          ≡ 1 + sum_by (counts o) (lists_of (e ∷ es)) = omega arith in
          all
      | false ↦ λ f.
          let rest = count_linked d o es y f kind h in
          let old = count-cons o e es in
          let new = count-cons o e (set_value (is_at (nat_cmp d)) es (listing o y)) in
          let all : sum_by (counts o) (lists_of (e ∷ set_value (is_at (nat_cmp d)) es (listing o y)))
          ≡ 1 + sum_by (counts o) (lists_of (e ∷ es)) = omega arith in
          all
    ] found

-- what some list has is not the root
pub not_root : (n o : ℕ) (x : Object) → is_listed_rightly n o x ≡ true → 1 ≤ n → (o == 1) ≡ false
not_root n o x h some =
    elim (o == 1)
    as (λ v. cond v (n == 0) (cond (is_kind kinds.Container x) (n == 1) (nat_le 1 n && (nat_le n 1 || x.fixed)))
    ≡ true → v ≡ false) [
      | true ↦ λ r. let none : n ≡ 0 = eqb-true n 0 r in absurd (omega arith)
      | false ↦ λ r. refl
    ] h

-- an object whose quota is not fixed stands in one list at most
pub one_list : (n o : ℕ) (x : Object) → is_listed_rightly n o x ≡ true → x.fixed ≡ false → n ≤ 1
one_list n o x h loose =
    elim (o == 1)
    as (λ v. cond v (n == 0) (cond (is_kind kinds.Container x) (n == 1) (nat_le 1 n && (nat_le n 1 || x.fixed)))
    ≡ true → n ≤ 1) [
      | true ↦ λ r. let none : n ≡ 0 = eqb-true n 0 r in omega arith
      | false ↦ elim (is_kind kinds.Container x)
          as (λ v. cond v (n == 1) (nat_le 1 n && (nat_le n 1 || x.fixed)) ≡ true → n ≤ 1) [
            | true ↦ λ r. let one : n ≡ 1 = eqb-true n 1 r in omega arith
            | false ↦ λ r. few (subst (λ v. (nat_le 1 n && (nat_le n 1 || v)) ≡ true) loose r)
          ]
    ] h
  where
    few : (nat_le 1 n && (nat_le n 1 || false)) ≡ true → n ≤ 1
    few r = leb-true n 1 (only (nat_le 1 n) (nat_le n 1) r)
      where
        only : (a b : Bool) → (a && (b || false)) ≡ true → b ≡ true
        only true true r = refl
        only true false r = r
        only false b r = absurd (cc)
