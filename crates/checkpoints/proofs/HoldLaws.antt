-- Containers list only what they may list.
use Rattle.std.proofs.Common.{◌≡◌, ℕ, Bool, true, false, not, cond, ◌&&◌, ◌||◌, ◌==◌, List, [], ◌∷◌}
use Rattle.std.proofs.Common.{Some, None, refl, sym, ◌∙◌, ap, ◌⊎◌, inl, inr}
use Rattle.std.specs.List.{list_all}
use Rattle.std.specs.BTreeMap.{is_at}
use Rattle.std.specs.Ordering.{nat_cmp}
use Rattle.std.proofs.lemmas.Bool.{and_from, or_left, or_right, eq-eqb}
use Rattle.base.specs.Live.{is_live, has}
use Rattle.base.specs.Sets.{has_kind, no_kind}
use Rattle.base.specs.declared.sets.TypeSet.{TypeSet}
use Rattle.kernel_rules.specs.Changes.{changed, put}
use Rattle.kernel_rules.specs.State.{State, object_at, of_object, lists_of, list_at, listed, kind_of, kind_number}
use Rattle.kernel_rules.specs.Step.{restricted}
use Rattle.kernel_rules.specs.declared.objects.Object.{Object}
use Rattle.kernel_rules.proofs.LookupLaws.{lookup_put}
use Rattle.kernel_rules.proofs.RecordLaws.{same_id}
use Rattle.kernel_laws.proofs.Frames.{restricted_at}
use Rattle.checkpoints.specs.Restorable.{may_hold, avoid_of, is_within}

-- what container d avoids
abbrev pub avoid_at : State → ℕ → TypeSet
avoid_at s d = of_object no_kind (λ x. avoid_of x.body) (object_at s d)

-- what any container lists it may list
abbrev pub HoldRightly : State → Type 0
HoldRightly s =
    (d i : ℕ) → has (list_at s d) i ≡ true
    → of_object true (may_hold (avoid_at s d)) (object_at s i) ≡ true

-- a value of an object, as a change leaves it
pub value_changed : {X : Type 0} (none : X) (g : Object → X) (q : ℕ) (s : State) (d : ℕ) (f : Object → Object)
    → ((x : Object) → g (f x) ≡ g x)
    → of_object none g (object_at (changed s d f) q) ≡ of_object none g (object_at s q)
value_changed none g q s d f same =
    elim (object_at s d)
    as (λ v. object_at s d ≡ v → of_object none g (object_at (of_object s (λ x. put s d (f x)) v) q)
    ≡ of_object none g (object_at s q)) [
      | None ↦ λ is. refl
      | Some x ↦ λ is.
          ap (of_object none g) (lookup_put d q s.objects x (f x) is)
          ∙ elim (is_at (nat_cmp q) d)
          as (λ v. is_at (nat_cmp q) d ≡ v → of_object none g (cond v (Some (f x)) (object_at s q))
          ≡ of_object none g (object_at s q)) [
            | true ↦ λ near.
                let on : q ≡ d = same_id q d near in
                same x ∙ sym (ap (of_object none g) (ap (object_at s) on ∙ is))
            | false ↦ λ far. refl
          ] refl
    ] refl

-- whether an object may be held hangs on its kind and on what it avoids
may_hold_same : (avoid : TypeSet) (x y : Object) → kind_of y.body ≡ kind_of x.body
    → avoid_of y.body ≡ avoid_of x.body → may_hold avoid y ≡ may_hold avoid x
may_hold_same avoid x y kind avoids =
    (λ i. not (has_kind avoid (kind i)) && (not (kind_number (kind i) == 0) || is_within avoid (avoids i)))

-- a change that leaves kinds and avoid sets, and lists no more than before
pub hold_changed : (s : State) (o : ℕ) (f : Object → Object)
    → ((x : Object) → kind_of (f x).body ≡ kind_of x.body)
    → ((x : Object) → avoid_of (f x).body ≡ avoid_of x.body)
    → ((d i : ℕ) → has (list_at (changed s o f) d) i ≡ true → (has (list_at s d) i ≡ true)
    ⊎ (of_object true (may_hold (avoid_at s d)) (object_at s i) ≡ true))
    → HoldRightly s → HoldRightly (changed s o f)
hold_changed s o f kind avoids less all d i h =
    ap (λ a. of_object true (may_hold a) (object_at (changed s o f) i))
    (value_changed no_kind (λ x. avoid_of x.body) d s o f avoids)
    ∙ value_changed true (may_hold (avoid_at s d)) i s o f
    (λ x. may_hold_same (avoid_at s d) x (f x) (kind x) (avoids x))
    ∙ elim (less d i h) as (λ _. of_object true (may_hold (avoid_at s d)) (object_at s i) ≡ true) [
      | inl old ↦ all d i old
      | inr new ↦ new
    ]

-- the dead go
pub hold_rest : (s : State) → HoldRightly s → HoldRightly (restricted s)
hold_rest s all d i h =
    elim (is_live (lists_of s.objects) d)
    as (λ v. object_at (restricted s) d ≡ cond v (object_at s d) None
    → of_object true (may_hold (avoid_at (restricted s) d)) (object_at (restricted s) i) ≡ true) [
      | true ↦ λ is.
          ap (λ z. of_object true (may_hold (of_object no_kind (λ x. avoid_of x.body) z)) (object_at (restricted s) i)) is
          ∙ elim (is_live (lists_of s.objects) i)
          as (λ v. object_at (restricted s) i ≡ cond v (object_at s i) None
          → of_object true (may_hold (avoid_at s d)) (object_at (restricted s) i) ≡ true) [
            | true ↦ λ at. ap (of_object true (may_hold (avoid_at s d))) at
                ∙ all d i (sym (ap (λ z. has (of_object [] (λ x. listed x.body) z) i) is) ∙ h)
            | false ↦ λ at. ap (of_object true (may_hold (avoid_at s d))) at
          ] (restricted_at s i)
      | false ↦ λ is.
          let none : false ≡ true = sym (ap (λ z. has (of_object [] (λ x. listed x.body) z) i) is) ∙ h in
          absurd (cc)
    ] (restricted_at s d)

-- the test of each, from that
pub all_listed : (test : ℕ → Bool) (ids : List ℕ) → ((i : ℕ) → has ids i ≡ true → test i ≡ true)
    → list_all test ids ≡ true
all_listed test [] h = refl
all_listed test (i ∷ ids) h =
    and_from (test i) (list_all test ids) (h i (or_left (i == i) (has ids i) (eq-eqb i i refl)))
    (all_listed test ids (λ j on. h j (or_right (j == i) (has ids j) on)))
