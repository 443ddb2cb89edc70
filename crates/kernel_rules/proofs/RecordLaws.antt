-- Each record of a kernel is live.
use Rattle.std.proofs.Common.{◌≡◌, ℕ, Bool, true, false, cond, ◌&&◌, List, [], ◌∷◌, refl, sym}
use Rattle.std.proofs.Common.{◌∙◌, ap, subst, Some, None, nat_lt, ◌==◌, Less, Equal}
use Rattle.std.proofs.Common.{Greater}
use Rattle.std.specs.List.{list_all, filter}
use Rattle.std.specs.Ordering.{nat_cmp, is_eq}
use Rattle.std.specs.Map.{lookup, set_value}
use Rattle.std.specs.BTreeMap.{is_at}
use Rattle.std.proofs.lemmas.List.Folds.{list_all-map}
use Rattle.std.proofs.lemmas.Bool.{and_parts, eqb-true, both_ways}
use Rattle.kernel_rules.specs.declared.objects.Object.{Object}
use Rattle.base.specs.declared.kinds.Kind as kind
use Rattle.kernel_rules.specs.State.{State, lists_of, object_at, of_object, is_kind, is_kind_at}
use Rattle.kernel_rules.specs.State.{listed, live_part}
use Rattle.base.specs.Live.{is_live, are_live}
use Rattle.kernel_rules.specs.Changes.{put, changed}
use Rattle.kernel_rules.specs.Step.{restricted}

-- a comparison that says equal
pub same_id : (o k : ℕ) → is_eq (nat_cmp o k) ≡ true → o ≡ k
same_id o k = elim (nat_lt o k) as (λ v. is_eq (cond v Less (cond (o == k) Equal Greater)) ≡ true → o ≡ k) [
  | true ↦ λ e. absurd (both_ways false refl e)
  | false ↦ elim (o == k) as (λ v. (o == k) ≡ v → is_eq (cond v Equal Greater) ≡ true → o ≡ k) [
    | true ↦ λ is e. eqb-true o k is
    | false ↦ λ is e. absurd (both_ways false refl e)
  ] refl
]

pub recorded_live : (lists : List (ℕ × List ℕ)) (es : List (ℕ × Object)) (o : ℕ) (x : Object)
    → list_all (λ e. is_live lists e.0) (lists_of es) ≡ true → lookup (is_at (nat_cmp o)) es ≡ Some x
    → is_live lists o ≡ true
recorded_live lists [] o x h found = absurd (cc)
recorded_live lists (e ∷ es) o x h found =
    let both : (is_live lists e.0 ≡ true) × (list_all (λ e. is_live lists e.0) (lists_of es) ≡ true) =
    and_parts (is_live lists e.0) (list_all (λ e. is_live lists e.0) (lists_of es)) h in
    elim (is_at (nat_cmp o) e.0)
    as (λ v. is_at (nat_cmp o) e.0 ≡ v → cond v (Some e.1) (lookup (is_at (nat_cmp o)) es) ≡ Some x
    → is_live lists o ≡ true) [
      | true ↦ λ is f. subst (λ k. is_live lists k ≡ true) (sym (same_id o e.0 is)) both.0
      | false ↦ λ is f. recorded_live lists es o x both.1 f
    ] refl found

pub kind_live : (s : State) (k : kind.Kind) (o : ℕ) → are_live (lists_of s.objects) ≡ true
    → is_kind_at s k o ≡ (is_kind_at s k o && is_live (lists_of s.objects) o)
kind_live s k o h =
    elim (object_at s o)
    as (λ v. object_at s o ≡ v → of_object false (is_kind k) v
    ≡ (of_object false (is_kind k) v && is_live (lists_of s.objects) o)) [
      | None ↦ λ is. refl
      | Some x ↦
          λ is. subst (λ v. is_kind k x ≡ (is_kind k x && v))
          (sym (recorded_live (lists_of s.objects) s.objects o x h is)) (and_true (is_kind k x))
    ] refl
  where
    and_true : (b : Bool) → b ≡ (b && true)
    and_true true = refl
    and_true false = refl

filter_all : {X : Type 0} (p : X → Bool) (xs : List X) → list_all p xs ≡ true → filter p xs ≡ xs
filter_all p [] h = refl
filter_all p (x ∷ xs) h =
    let both : (p x ≡ true) × (list_all p xs ≡ true) = and_parts (p x) (list_all p xs) h in
    subst (λ v. cond v (x ∷ filter p xs) (filter p xs) ≡ x ∷ xs) (sym both.0)
    (ap (λ t. x ∷ t) (filter_all p xs both.1))

-- where each record is live, the live part is the whole
pub live_part-all : (objects : List (ℕ × Object)) → are_live (lists_of objects) ≡ true
    → live_part objects ≡ objects
unfolding live_part
live_part-all objects h =
    filter_all (λ e. is_live (lists_of objects) e.0) objects
    (sym (list_all-map (λ e. is_live (lists_of objects) e.0) (λ e. (e.0, listed e.1.body)) objects) ∙ h)

-- an object that lists what the one before did leaves the lists as they were
pub lists_of-set_value : (o : ℕ) (es : List (ℕ × Object)) (x y : Object)
    → lookup (is_at (nat_cmp o)) es ≡ Some x → listed y.body ≡ listed x.body
    → lists_of (set_value (is_at (nat_cmp o)) es y) ≡ lists_of es
lists_of-set_value o [] x y found same = refl
lists_of-set_value o (e ∷ es) x y found same =
    elim (is_at (nat_cmp o) e.0)
    as (λ v. cond v (Some e.1) (lookup (is_at (nat_cmp o)) es) ≡ Some x
    → lists_of (cond v ((e.0, y) ∷ es) (e ∷ set_value (is_at (nat_cmp o)) es y)) ≡ lists_of (e ∷ es)) [
      | true ↦ λ f.
          let is : e.1 ≡ x = cc in ap (λ l. (e.0, l) ∷ lists_of es) (same ∙ ap (λ z. listed z.body) (sym is))
      | false ↦ λ f. ap (λ t. (e.0, listed e.1.body) ∷ t) (lists_of-set_value o es x y f same)
    ] found

pub restricted_live : (s : State) → are_live (lists_of s.objects) ≡ true → restricted s ≡ s
restricted_live s h = (λ i. record s { objects = live_part-all s.objects h i })

pub next_id-changed : (s : State) (o : ℕ) (f : Object → Object) → (changed s o f).next_id ≡ s.next_id
next_id-changed s o f =
    elim (object_at s o)
    as (λ v. (of_object s (λ x. put s o (f x)) v).next_id ≡ s.next_id) [ None ↦ refl | Some x ↦ refl ]
