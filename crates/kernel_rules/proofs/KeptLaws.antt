-- A change of one object that keeps its place among the others.
use Rattle.std.proofs.Common.{◌≡◌, ℕ, ◌+◌, Bool, true, false, cond, ◌&&◌, ◌||◌, ◌==◌, nat_lt}
use Rattle.std.proofs.Common.{nat_le, List, [], ◌∷◌, Option, Some, None, is_some, sum_by, refl, sym}
use Rattle.std.proofs.Common.{◌∙◌, ap, subst}
use Rattle.std.specs.List.{list_all}
use Rattle.std.specs.Ordering.{nat_cmp}
use Rattle.std.specs.Map.{set_value}
use Rattle.std.specs.BTreeMap.{is_at}
use Rattle.std.proofs.lemmas.Bool.{and_parts, and_from}
use Rattle.base.specs.Live.{has, are_live}
use Rattle.base.specs.declared.kinds.Kind.TheVariants as kinds
use Rattle.kernel_rules.specs.Changes.{put, changed}
use Rattle.kernel_rules.specs.State.{State, lists_of, object_at, of_object, listed, use_of, own_cost}
use Rattle.kernel_rules.specs.State.{is_kind}
use Rattle.kernel_rules.specs.WellFormed.{is_kept, is_whole, is_distinct}
use Rattle.kernel_rules.specs.WellFormed.{is_listed_rightly, listers, ids_rise}
use Rattle.kernel_rules.specs.declared.objects.Object.{Object}
use Rattle.kernel_rules.proofs.LookupLaws.{all_at, all_from, lookup_put}
use Rattle.kernel_rules.proofs.RecordLaws.{same_id, lists_of-set_value}
use Rattle.kernel_rules.proofs.WellFormedLaws.{Soundness}

-- y takes the place of x: it lists the same, is as much a container, its quota and cost are the same, and its
-- quota is fixed where that of x is
pub record KeepsPlace (x y : Object) : Type 0 where
  pub list : listed y.body ≡ listed x.body
  pub kind : is_kind kinds.Container y ≡ is_kind kinds.Container x
  pub quota : y.quota ≡ x.quota
  pub cost : own_cost y.body ≡ own_cost x.body
  pub fixed : x.fixed ≡ true → y.fixed ≡ true
  pub whole : is_whole x ≡ true → is_whole y ≡ true

pub all_keys-put : (p : ℕ → Bool) (o : ℕ) (es : List (ℕ × Object)) (y : Object)
    → list_all (λ e. p e.0) (set_value (is_at (nat_cmp o)) es y) ≡ list_all (λ e. p e.0) es
all_keys-put p o [] y = refl
all_keys-put p o (e ∷ es) y =
    elim (is_at (nat_cmp o) e.0)
    as (λ v. list_all (λ e. p e.0) (cond v ((e.0, y) ∷ es) (e ∷ set_value (is_at (nat_cmp o)) es y))
    ≡ (p e.0 && list_all (λ e. p e.0) es)) [
      | true ↦ refl
      | false ↦ ap (λ b. p e.0 && b) (all_keys-put p o es y)
    ]

pub rise-put : (o : ℕ) (es : List (ℕ × Object)) (y : Object)
    → ids_rise (set_value (is_at (nat_cmp o)) es y) ≡ ids_rise es
rise-put o [] y = refl
rise-put o (e ∷ es) y =
    elim (is_at (nat_cmp o) e.0)
    as (λ v. ids_rise (cond v ((e.0, y) ∷ es) (e ∷ set_value (is_at (nat_cmp o)) es y)) ≡ ids_rise (e ∷ es)) [
      | true ↦ refl
      | false ↦ λ i. all_keys-put (λ k. nat_lt e.0 k) o es y i && rise-put o es y i
    ]

-- what is read off an object is the same everywhere, if it is the same of x and y
pub at_put : {X : Type 0} (d : X) (g : Object → X) (s : State) (o q : ℕ) (x y : Object) → object_at s o ≡ Some x
    → g y ≡ g x → of_object d g (object_at (put s o y) q) ≡ of_object d g (object_at s q)
at_put d g s o q x y found same = ap (of_object d g) (lookup_put o q s.objects x y found) ∙
    elim (is_at (nat_cmp q) o)
    as (λ v. is_at (nat_cmp q) o ≡ v → of_object d g (cond v (Some y) (object_at s q))
    ≡ of_object d g (object_at s q)) [
      | true ↦ λ is.
          let on : q ≡ o = same_id q o is in
          same ∙ sym (ap (of_object d g) (subst (λ k. object_at s k ≡ Some x) (sym on) found))
      | false ↦ λ is. refl
    ] refl

is_some_of : (v : Option Object) → is_some v ≡ of_object false (λ x. true) v
is_some_of None = refl
is_some_of (Some x) = refl

pub some_put : (s : State) (o q : ℕ) (x y : Object) → object_at s o ≡ Some x
    → is_some (object_at (put s o y) q) ≡ is_some (object_at s q)
some_put s o q x y found =
    is_some_of (object_at (put s o y) q) ∙ at_put false (λ z. true) s o q x y found refl
    ∙ sym (is_some_of (object_at s q))

use_put : (s : State) (o q : ℕ) (x y : Object) → object_at s o ≡ Some x → KeepsPlace x y
    → use_of (put s o y) q ≡ use_of s q
use_put s o q x y found keeps =
    λ i. at_put 0 (λ z. own_cost z.body) s o q x y found keeps.cost i
    + sum_by (λ k. at_put 0 (λ z. z.quota) s o k x y found keeps.quota i)
    (at_put [] (λ z. listed z.body) s o q x y found keeps.list i)

-- what is kept hangs on what the lists, the uses and the records are
pub kept_same : (s n : State) (q : ℕ) (z : Object)
    → ((k : ℕ) → is_some (object_at n k) ≡ is_some (object_at s k)) → use_of n q ≡ use_of s q
    → listers n q ≡ listers s q → is_kept n q z ≡ is_kept s q z
kept_same s n q z some used lists =
    λ i. is_distinct (listed z.body) && list_all (λ k. some k i) (listed z.body) && nat_le (used i) z.quota
    && is_listed_rightly (lists i) q z && is_whole z

-- it is listed rightly where x is
rightly_kept : (n o : ℕ) (x y : Object) → KeepsPlace x y → is_listed_rightly n o x ≡ true
    → is_listed_rightly n o y ≡ true
rightly_kept n o x y keeps h =
    (λ i. cond (o == 1) (n == 0)
    (cond (keeps.kind i) (n == 1) (nat_le 1 n && (nat_le n 1 || y.fixed))))
    ∙ wider (o == 1) (n == 0) (is_kind kinds.Container x) (n == 1) (nat_le 1 n) (nat_le n 1) x.fixed y.fixed
    keeps.fixed h
  where
    wider : (root none held one some few fixed still : Bool) → (fixed ≡ true → still ≡ true)
        → cond root none (cond held one (some && (few || fixed))) ≡ true
        → cond root none (cond held one (some && (few || still))) ≡ true
    wider true none held one some few fixed still w h = h
    wider false none true one some few fixed still w h = h
    wider false none false one false few fixed still w h = h
    wider false none false one true true fixed still w h = h
    wider false none false one true false fixed still w h = w h

kept_here : (n : State) (o : ℕ) (x y : Object) → KeepsPlace x y → is_kept n o x ≡ true → is_kept n o y ≡ true
kept_here n o x y keeps h =
    let parts : ((is_distinct (listed x.body) && list_all (λ k. is_some (object_at n k)) (listed x.body)
    && nat_le (use_of n o) x.quota && is_listed_rightly (listers n o) o x) ≡ true) × (is_whole x ≡ true)
    = and_parts (is_distinct (listed x.body) && list_all (λ k. is_some (object_at n k)) (listed x.body)
    && nat_le (use_of n o) x.quota && is_listed_rightly (listers n o) o x) (is_whole x) h in
    let inner : ((is_distinct (listed x.body) && list_all (λ k. is_some (object_at n k)) (listed x.body)
    && nat_le (use_of n o) x.quota) ≡ true) × (is_listed_rightly (listers n o) o x ≡ true)
    = and_parts (is_distinct (listed x.body) && list_all (λ k. is_some (object_at n k)) (listed x.body)
    && nat_le (use_of n o) x.quota) (is_listed_rightly (listers n o) o x) parts.0 in
    and_from (is_distinct (listed y.body) && list_all (λ k. is_some (object_at n k)) (listed y.body)
    && nat_le (use_of n o) y.quota && is_listed_rightly (listers n o) o y) (is_whole y)
    (and_from (is_distinct (listed y.body) && list_all (λ k. is_some (object_at n k)) (listed y.body)
    && nat_le (use_of n o) y.quota) (is_listed_rightly (listers n o) o y)
    ((λ i. is_distinct (keeps.list i) && list_all (λ k. is_some (object_at n k)) (keeps.list i)
    && nat_le (use_of n o) (keeps.quota i)) ∙ inner.0)
    (rightly_kept (listers n o) o x y keeps inner.1))
    (keeps.whole parts.1)

pub put_sound : (s : State) (o : ℕ) (x y : Object) → object_at s o ≡ Some x → KeepsPlace x y → Soundness s
    → Soundness (put s o y)
put_sound s o x y found keeps h =
    let lists : lists_of (put s o y).objects ≡ lists_of s.objects =
    lists_of-set_value o s.objects x y found keeps.list in
    let rise : ids_rise (put s o y).objects ≡ true = rise-put o s.objects y ∙ h.rise in
    let same : (q : ℕ) (z : Object) → is_kept (put s o y) q z ≡ is_kept s q z
    = (λ q z. kept_same s (put s o y) q z (λ k. some_put s o k x y found) (use_put s o q x y found keeps)
    (ap (λ l. sum_by (λ e. cond (has e.1 q) 1 0) l) lists)) in
    record {
      begun = h.begun;
      live = ap are_live lists ∙ h.live;
      given = ap (λ l. list_all (λ e. nat_lt e.0 s.next_id) l) lists ∙ h.given;
      rise = rise-put o s.objects y ∙ h.rise;
      kept = all_from (λ q z. is_kept (put s o y) q z) (put s o y).objects rise (λ q z at.
          let there : cond (is_at (nat_cmp q) o) (Some y) (object_at s q) ≡ Some z =
          sym (lookup_put o q s.objects x y found) ∙ at in
          elim (is_at (nat_cmp q) o)
          as (λ v. is_at (nat_cmp q) o ≡ v → cond v (Some y) (object_at s q) ≡ Some z
          → is_kept (put s o y) q z ≡ true) [
            | true ↦ λ is f.
                let on : q ≡ o = same_id q o is in
                let is_y : y ≡ z = cc in
                subst (λ k. is_kept (put s o y) k z ≡ true) (sym on)
                (subst (λ (w : Object). is_kept (put s o y) o w ≡ true) is_y
                (kept_here (put s o y) o x y keeps
                (same o x ∙ all_at (λ q z. is_kept s q z) s.objects o x h.kept found)))
            | false ↦ λ is f. same q z ∙ all_at (λ q z. is_kept s q z) s.objects q z h.kept f
          ] refl there);
    }

pub changed_sound : (s : State) (o : ℕ) (f : Object → Object)
    → ((x : Object) → object_at s o ≡ Some x → KeepsPlace x (f x)) → Soundness s → Soundness (changed s o f)
changed_sound s o f keeps h =
    elim (object_at s o) as (λ v. object_at s o ≡ v → Soundness (of_object s (λ x. put s o (f x)) v)) [
      | None ↦ λ is. h
      | Some x ↦ λ is. put_sound s o x (f x) is (keeps x is) h
    ] refl
