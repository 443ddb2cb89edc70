-- Looking up ids among records that rise.
use Rattle.std.proofs.Common.{◌≡◌, ◌≢◌, ℕ, ◌<◌, Bool, true, false, cond, ◌==◌, nat_lt}
use Rattle.std.proofs.Common.{List, [], ◌∷◌, ◌++◌, Some, None, refl, sym, ◌∙◌, ap, subst}
use Rattle.std.proofs.Common.{arith, Less, Equal, Greater, inl, inr}
use Rattle.std.specs.List.{list_all}
use Rattle.std.specs.Ordering.{nat_cmp, is_eq, match_ordering}
use Rattle.std.specs.Map.{lookup, set_value}
use Rattle.std.specs.BTreeMap.{is_at, insert_entry}
use Rattle.std.proofs.lemmas.Bool.{and_parts, and_from, both_ways, cases_Bool, eq-eqb, eqb-true, ltb-true}
use Rattle.kernel_rules.specs.declared.objects.Object.{Object}
use Rattle.kernel_rules.specs.WellFormed.{ids_rise}
use Rattle.kernel_rules.proofs.RecordLaws.{same_id}

-- an id is at itself
pub at_self : (o : ℕ) → is_at (nat_cmp o) o ≡ true
at_self o =
    elim (nat_lt o o) as (λ v. nat_lt o o ≡ v → is_eq (cond v Less (cond (o == o) Equal Greater)) ≡ true) [
      | true ↦ λ is. let less : o < o = ltb-true o o is in absurd (omega arith)
      | false ↦ λ is. subst (λ v. is_eq (cond v Equal Greater) ≡ true) (sym (eq-eqb o o refl)) refl
    ] refl

-- and at no other
pub at_is : (o k : ℕ) → is_at (nat_cmp o) k ≡ (o == k)
at_is o k = elim (cases_Bool (o == k)) [
  | inl is ↦
      let same : o ≡ k = eqb-true o k is in
      subst (λ (j : ℕ). is_at (nat_cmp o) j ≡ (o == j)) same (at_self o ∙ sym (eq-eqb o o refl))
  | inr off ↦ elim (cases_Bool (is_at (nat_cmp o) k)) [
    | inl at ↦ absurd (both_ways (o == k) off (eq-eqb o k (same_id o k at)))
    | inr never ↦ never ∙ sym off
  ]
]

-- what holds of each record holds of the one that is looked up
pub all_at : (P : ℕ → Object → Bool) (es : List (ℕ × Object)) (o : ℕ) (x : Object)
    → list_all (λ e. P e.0 e.1) es ≡ true → lookup (is_at (nat_cmp o)) es ≡ Some x → P o x ≡ true
all_at P [] o x h found = absurd (cc)
all_at P (e ∷ es) o x h found =
    let both : (P e.0 e.1 ≡ true) × (list_all (λ e. P e.0 e.1) es ≡ true) =
    and_parts (P e.0 e.1) (list_all (λ e. P e.0 e.1) es) h in
    elim (is_at (nat_cmp o) e.0)
    as (λ v. is_at (nat_cmp o) e.0 ≡ v → cond v (Some e.1) (lookup (is_at (nat_cmp o)) es) ≡ Some x → P o x
    ≡ true) [
      | true ↦ λ is f.
          let at : e.1 ≡ x = cc in
          subst (λ k. P k x ≡ true) (sym (same_id o e.0 is)) (subst (λ z. P e.0 z ≡ true) at both.0)
      | false ↦ λ is f. all_at P es o x both.1 f
    ] refl found

-- a record past the first ids of a rising list is none of them
above : (o : ℕ) (es : List (ℕ × Object)) (q : ℕ) (x : Object) → list_all (λ f. nat_lt o f.0) es ≡ true
    → lookup (is_at (nat_cmp q)) es ≡ Some x → o < q
above o es q x h found = ltb-true o q (all_at (λ p y. nat_lt o p) es q x h found)

-- what holds of each record that is looked up holds of each record
pub all_from : (P : ℕ → Object → Bool) (es : List (ℕ × Object)) → ids_rise es ≡ true
    → ((q : ℕ) (x : Object) → lookup (is_at (nat_cmp q)) es ≡ Some x → P q x ≡ true)
    → list_all (λ e. P e.0 e.1) es ≡ true
all_from P [] rise h = refl
all_from P (e ∷ es) rise h =
    let parts : (list_all (λ f. nat_lt e.0 f.0) es ≡ true) × (ids_rise es ≡ true) =
    and_parts (list_all (λ f. nat_lt e.0 f.0) es) (ids_rise es) rise in
    and_from (P e.0 e.1) (list_all (λ e. P e.0 e.1) es)
    (h e.0 e.1 (subst (λ v. cond v (Some e.1) (lookup (is_at (nat_cmp e.0)) es) ≡ Some e.1) (sym (at_self e.0))
    refl))
    (all_from P es parts.1
    (λ q x found. h q x
    (elim (is_at (nat_cmp q) e.0)
    as (λ v. is_at (nat_cmp q) e.0 ≡ v → cond v (Some e.1) (lookup (is_at (nat_cmp q)) es) ≡ Some x) [
      | true ↦ λ is.
          let same : q ≡ e.0 = same_id q e.0 is in
          let less : e.0 < q = above e.0 es q x parts.0 found in
          absurd (omega arith)
      | false ↦ λ is. found
    ] refl)))

-- an id looked up after a write
pub lookup_put : (o q : ℕ) (es : List (ℕ × Object)) (x y : Object) → lookup (is_at (nat_cmp o)) es ≡ Some x
    → lookup (is_at (nat_cmp q)) (set_value (is_at (nat_cmp o)) es y)
    ≡ cond (is_at (nat_cmp q) o) (Some y) (lookup (is_at (nat_cmp q)) es)
lookup_put o q [] x y found = absurd (cc)
lookup_put o q (e ∷ es) x y found =
    elim (is_at (nat_cmp o) e.0)
    as (λ v. is_at (nat_cmp o) e.0 ≡ v → cond v (Some e.1) (lookup (is_at (nat_cmp o)) es) ≡ Some x
    → lookup (is_at (nat_cmp q)) (cond v ((e.0, y) ∷ es) (e ∷ set_value (is_at (nat_cmp o)) es y))
    ≡ cond (is_at (nat_cmp q) o) (Some y) (lookup (is_at (nat_cmp q)) (e ∷ es))) [
      | true ↦ λ is f.
          let same : o ≡ e.0 = same_id o e.0 is in
          subst (λ k. cond (is_at (nat_cmp q) e.0) (Some y) (lookup (is_at (nat_cmp q)) es)
          ≡ cond (is_at (nat_cmp q) k) (Some y)
          (cond (is_at (nat_cmp q) e.0) (Some e.1) (lookup (is_at (nat_cmp q)) es)))
          (sym same)
          (twice (is_at (nat_cmp q) e.0) (Some y) (Some e.1) (lookup (is_at (nat_cmp q)) es))
      | false ↦ λ is f.
          elim (is_at (nat_cmp q) e.0)
          as (λ v. is_at (nat_cmp q) e.0 ≡ v
          → cond v (Some e.1) (lookup (is_at (nat_cmp q)) (set_value (is_at (nat_cmp o)) es y))
          ≡ cond (is_at (nat_cmp q) o) (Some y) (cond v (Some e.1) (lookup (is_at (nat_cmp q)) es))) [
            | true ↦ λ at. elim (is_at (nat_cmp q) o)
                as (λ v. is_at (nat_cmp q) o ≡ v → Some e.1 ≡ cond v (Some y) (Some e.1)) [
                  | true ↦ λ on.
                      let first : q ≡ e.0 = same_id q e.0 at in
                      let second : q ≡ o = same_id q o on in
                      absurd (both_ways (is_at (nat_cmp o) e.0) is
                      (subst (λ k. is_at (nat_cmp o) k ≡ true) (sym second ∙ first) (at_self o)))
                  | false ↦ λ on. refl
                ] refl
            | false ↦ λ at. lookup_put o q es x y f
          ] refl
    ] refl found
  where
    twice : {X : Type 0} (b : Bool) (u v w : X) → cond b u w ≡ cond b u (cond b v w)
    twice true u v w = refl
    twice false u v w = refl

-- a new id is the last
pub insert_last : (k : ℕ) (es : List (ℕ × Object)) (x : Object) → list_all (λ e. nat_lt e.0 k) es ≡ true
    → insert_entry nat_cmp es k x ≡ es ++ (k, x) ∷ []
insert_last k [] x h = refl
insert_last k (e ∷ es) x h =
    let both : (nat_lt e.0 k ≡ true) × (list_all (λ e. nat_lt e.0 k) es ≡ true) =
    and_parts (nat_lt e.0 k) (list_all (λ e. nat_lt e.0 k) es) h in
    let less : e.0 < k = ltb-true e.0 k both.0 in
    let no_less : nat_lt k e.0 ≡ false = grind arith in
    let no_same : (k == e.0) ≡ false = grind arith in
    subst (λ v. match_ordering (cond v Less (cond (k == e.0) Equal Greater)) ((k, x) ∷ e ∷ es) ((e.0, x) ∷ es)
    (e ∷ insert_entry nat_cmp es k x) ≡ e ∷ (es ++ (k, x) ∷ [])) (sym no_less)
    (subst (λ v. match_ordering (cond v Equal Greater) ((k, x) ∷ e ∷ es) ((e.0, x) ∷ es)
    (e ∷ insert_entry nat_cmp es k x) ≡ e ∷ (es ++ (k, x) ∷ [])) (sym no_same)
    (ap (λ t. e ∷ t) (insert_last k es x both.1)))

-- an id looked up after one more
pub lookup_last : (k q : ℕ) (es : List (ℕ × Object)) (x : Object) → q ≢ k
    → lookup (is_at (nat_cmp q)) (es ++ (k, x) ∷ []) ≡ lookup (is_at (nat_cmp q)) es
lookup_last k q [] x other =
    elim (is_at (nat_cmp q) k) as (λ v. is_at (nat_cmp q) k ≡ v → cond v (Some x) None ≡ None) [
      | true ↦ λ is. absurd (other (same_id q k is))
      | false ↦ λ is. refl
    ] refl
lookup_last k q (e ∷ es) x other = ap (cond (is_at (nat_cmp q) e.0) (Some e.1)) (lookup_last k q es x other)

pub lookup_new : (k : ℕ) (es : List (ℕ × Object)) (x : Object) → lookup (is_at (nat_cmp k)) es ≡ None
    → lookup (is_at (nat_cmp k)) (es ++ (k, x) ∷ []) ≡ Some x
lookup_new k [] x h = subst (λ v. cond v (Some x) None ≡ Some x) (sym (at_self k)) refl
lookup_new k (e ∷ es) x h =
    elim (is_at (nat_cmp k) e.0)
    as (λ v. cond v (Some e.1) (lookup (is_at (nat_cmp k)) es) ≡ None
    → cond v (Some e.1) (lookup (is_at (nat_cmp k)) (es ++ (k, x) ∷ [])) ≡ Some x) [
      | true ↦ λ f. absurd (cc)
      | false ↦ λ f. lookup_new k es x f
    ] h
