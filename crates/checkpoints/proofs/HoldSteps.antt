-- Each call keeps that containers list only what they may list.
use Rattle.std.proofs.Common.{◌≡◌, ℕ, Bool, true, false, not, cond, ◌==◌, List, [], ◌∷◌, ◌++◌}
use Rattle.std.proofs.Common.{Option, Some, None, refl, sym, ◌∙◌, subst, ap, ◌⊎◌, inl, inr}
use Rattle.std.specs.List.{filter}
use Rattle.std.specs.BTreeMap.{is_at}
use Rattle.std.specs.Ordering.{nat_cmp}
use Rattle.std.proofs.lemmas.Bool.{or_cases, or_left, or_right, eqb-true}
use Rattle.base.specs.Live.{has}
use Rattle.kernel_rules.specs.Changes.{changed, put, listing, delisting, without}
use Rattle.kernel_rules.specs.Changes.{relist, rebyte, requeue, rethread, reslot}
use Rattle.kernel_rules.specs.State.{State, object_at, of_object, list_at, listed, kind_of}
use Rattle.kernel_rules.specs.declared.objects.Body as body
use Rattle.kernel_rules.specs.declared.objects.Body.TheVariants as is
use Rattle.kernel_rules.specs.declared.objects.Mapping.{Mapping}
use Rattle.kernel_rules.specs.declared.objects.Object.{Object}
use Rattle.kernel_rules.specs.declared.objects.Thread as thread
use Rattle.kernel_rules.proofs.LookupLaws.{lookup_put}
use Rattle.kernel_rules.proofs.RecordLaws.{same_id}
use Rattle.checkpoints.specs.Restorable.{may_hold, avoid_of}
use Rattle.checkpoints.proofs.HoldLaws.{HoldRightly, avoid_at, value_changed, hold_changed}

-- a body of the same kind that avoids the same and lists the same
pub record Holds (b c : body.Body) : Type 0 where
  pub kind : kind_of c ≡ kind_of b
  pub avoid : avoid_of c ≡ avoid_of b
  pub list : listed c ≡ listed b

pub self : (b : body.Body) → Holds b b
self b = record { kind = refl; avoid = refl; list = refl }

pub bytes_hold : (f : List ℕ → List ℕ) (b : body.Body) → Holds b (rebyte f b)
bytes_hold f (is.Segment bytes) = record { kind = refl; avoid = refl; list = refl }
bytes_hold f (is.Container avoid list) = self (is.Container avoid list)
bytes_hold f (is.AddressSpace slots) = self (is.AddressSpace slots)
bytes_hold f (is.Thread t) = self (is.Thread t)
bytes_hold f (is.Gate g) = self (is.Gate g)
bytes_hold f (is.Device packets) = self (is.Device packets)

pub queue_hold : (f : List (List ℕ) → List (List ℕ)) (b : body.Body) → Holds b (requeue f b)
queue_hold f (is.Device packets) = record { kind = refl; avoid = refl; list = refl }
queue_hold f (is.Container avoid list) = self (is.Container avoid list)
queue_hold f (is.AddressSpace slots) = self (is.AddressSpace slots)
queue_hold f (is.Thread t) = self (is.Thread t)
queue_hold f (is.Gate g) = self (is.Gate g)
queue_hold f (is.Segment bytes) = self (is.Segment bytes)

pub thread_hold : (f : thread.Thread → thread.Thread) (b : body.Body) → Holds b (rethread f b)
thread_hold f (is.Thread t) = record { kind = refl; avoid = refl; list = refl }
thread_hold f (is.Container avoid list) = self (is.Container avoid list)
thread_hold f (is.AddressSpace slots) = self (is.AddressSpace slots)
thread_hold f (is.Device packets) = self (is.Device packets)
thread_hold f (is.Gate g) = self (is.Gate g)
thread_hold f (is.Segment bytes) = self (is.Segment bytes)

pub slots_hold : (f : List (Option Mapping) → List (Option Mapping)) (b : body.Body) → Holds b (reslot f b)
slots_hold f (is.AddressSpace slots) = record { kind = refl; avoid = refl; list = refl }
slots_hold f (is.Container avoid list) = self (is.Container avoid list)
slots_hold f (is.Thread t) = self (is.Thread t)
slots_hold f (is.Device packets) = self (is.Device packets)
slots_hold f (is.Gate g) = self (is.Gate g)
slots_hold f (is.Segment bytes) = self (is.Segment bytes)

pub list_kind : (f : List ℕ → List ℕ) (b : body.Body) → kind_of (relist f b) ≡ kind_of b
list_kind f (is.Container avoid list) = refl
list_kind f (is.Segment bytes) = refl
list_kind f (is.AddressSpace slots) = refl
list_kind f (is.Thread t) = refl
list_kind f (is.Gate g) = refl
list_kind f (is.Device packets) = refl

pub list_avoid : (f : List ℕ → List ℕ) (b : body.Body) → avoid_of (relist f b) ≡ avoid_of b
list_avoid f (is.Container avoid list) = refl
list_avoid f (is.Segment bytes) = refl
list_avoid f (is.AddressSpace slots) = refl
list_avoid f (is.Thread t) = refl
list_avoid f (is.Gate g) = refl
list_avoid f (is.Device packets) = refl

-- a change that leaves kinds, avoid sets and lists
pub hold_kept : (s : State) (o : ℕ) (f : Object → Object) → ((x : Object) → Holds x.body (f x).body)
    → HoldRightly s → HoldRightly (changed s o f)
hold_kept s o f same all =
    hold_changed s o f (λ x. (same x).kind) (λ x. (same x).avoid)
    (λ d i h. inl (sym (ap (λ l. has l i) (value_changed [] (λ x. listed x.body) d s o f (λ x. (same x).list))) ∙ h))
    all

-- a relation between what a change leaves of an object and what was there
related : {X : Type 0} (R : X → X → Type 0) (none : X) (g : Object → X) (q : ℕ) (s : State) (d : ℕ)
    (f : Object → Object) → ((v : X) → R v v)
    → ((x : Object) → object_at s d ≡ Some x → q ≡ d → R (g (f x)) (g x))
    → R (of_object none g (object_at (changed s d f) q)) (of_object none g (object_at s q))
related R none g q s d f same new =
    elim (object_at s d)
    as (λ v. object_at s d ≡ v → R (of_object none g (object_at (of_object s (λ x. put s d (f x)) v) q))
    (of_object none g (object_at s q))) [
      | None ↦ λ is. same (of_object none g (object_at s q))
      | Some x ↦ λ is.
          subst (λ z. R (of_object none g z) (of_object none g (object_at s q))) (sym (lookup_put d q s.objects x (f x) is))
          (elim (is_at (nat_cmp q) d)
          as (λ v. is_at (nat_cmp q) d ≡ v → R (of_object none g (cond v (Some (f x)) (object_at s q)))
          (of_object none g (object_at s q))) [
            | true ↦ λ near.
                let on : q ≡ d = same_id q d near in
                subst (λ z. R (g (f x)) (of_object none g z)) (sym (ap (object_at s) on ∙ is)) (new x is on)
            | false ↦ λ far. same (of_object none g (object_at s q))
          ] refl)
    ] refl

-- what is left of a list was in it
left : (test : ℕ → Bool) (ids : List ℕ) (i : ℕ) → has (filter test ids) i ≡ true → has ids i ≡ true
left test [] i h = h
left test (j ∷ ids) i h =
    elim (test j) as (λ v. has (cond v (j ∷ filter test ids) (filter test ids)) i ≡ true → has (j ∷ ids) i ≡ true) [
      | true ↦ λ g. elim (or_cases (i == j) (has (filter test ids) i) g) as (λ _. has (j ∷ ids) i ≡ true) [
        | inl on ↦ or_left (i == j) (has ids i) on
        | inr rest ↦ or_right (i == j) (has ids i) (left test ids i rest)
      ]
      | false ↦ λ g. or_right (i == j) (has ids i) (left test ids i g)
    ] h

-- what a longer list has
longer : (ids : List ℕ) (k i : ℕ) → has (ids ++ k ∷ []) i ≡ true → (has ids i ≡ true) ⊎ (i ≡ k)
longer [] k i h = elim (or_cases (i == k) false h) as (λ _. (has [] i ≡ true) ⊎ (i ≡ k)) [
  | inl on ↦ inr (eqb-true i k on)
  | inr never ↦ absurd (cc)
]
longer (j ∷ ids) k i h =
    elim (or_cases (i == j) (has (ids ++ k ∷ []) i) h) as (λ _. (has (j ∷ ids) i ≡ true) ⊎ (i ≡ k)) [
      | inl on ↦ inl (or_left (i == j) (has ids i) on)
      | inr rest ↦ elim (longer ids k i rest) as (λ _. (has (j ∷ ids) i ≡ true) ⊎ (i ≡ k)) [
        | inl old ↦ inl (or_right (i == j) (has ids i) old)
        | inr new ↦ inr new
      ]
    ]

less_body : (k i : ℕ) (b : body.Body) → has (listed (relist (without k) b)) i ≡ true → has (listed b) i ≡ true
less_body k i (is.Container avoid list) h = left (λ j. not (k == j)) list i h
less_body k i (is.Segment bytes) h = h
less_body k i (is.AddressSpace slots) h = h
less_body k i (is.Thread t) h = h
less_body k i (is.Gate g) h = h
less_body k i (is.Device packets) h = h

more_body : (k i : ℕ) (b : body.Body) → has (listed (relist (λ ids. ids ++ k ∷ []) b)) i ≡ true
    → (has (listed b) i ≡ true) ⊎ (i ≡ k)
more_body k i (is.Container avoid list) h = longer list k i h
more_body k i (is.Segment bytes) h = inl h
more_body k i (is.AddressSpace slots) h = inl h
more_body k i (is.Thread t) h = inl h
more_body k i (is.Gate g) h = inl h
more_body k i (is.Device packets) h = inl h

-- a list without an id
pub hold_less : (s : State) (o k : ℕ) → HoldRightly s → HoldRightly (changed s o (delisting k))
hold_less s o k all =
    hold_changed s o (delisting k) (λ x. list_kind (without k) x.body) (λ x. list_avoid (without k) x.body)
    (λ d i h. inl (related (λ a b. has a i ≡ true → has b i ≡ true) [] (λ x. listed x.body) d s o (delisting k)
    (λ v g. g) (λ x is on. less_body k i x.body) h)) all

-- what a list with one id more has
pub listed_more : (s : State) (o k d i : ℕ) → has (list_at (changed s o (listing k)) d) i ≡ true
    → (has (list_at s d) i ≡ true) ⊎ ((i ≡ k) × (d ≡ o))
listed_more s o k d i h =
    related (λ a b. has a i ≡ true → (has b i ≡ true) ⊎ ((i ≡ k) × (d ≡ o))) [] (λ x. listed x.body) d s o (listing k)
    (λ v g. inl g)
    (λ x is on g. elim (more_body k i x.body g) as (λ _. (has (listed x.body) i ≡ true) ⊎ ((i ≡ k) × (d ≡ o))) [
      | inl old ↦ inl old
      | inr new ↦ inr (new, on)
    ]) h

-- a list with one id more, which the container may list
pub hold_more : (s : State) (o k : ℕ) → of_object true (may_hold (avoid_at s o)) (object_at s k) ≡ true
    → HoldRightly s → HoldRightly (changed s o (listing k))
hold_more s o k may all =
    hold_changed s o (listing k) (λ x. list_kind _ x.body) (λ x. list_avoid _ x.body)
    (λ d i h. elim (listed_more s o k d i h)
    as (λ _. (has (list_at s d) i ≡ true) ⊎ (of_object true (may_hold (avoid_at s d)) (object_at s i) ≡ true)) [
      | inl old ↦ inl old
      | inr new ↦ inr (subst (λ j. of_object true (may_hold (avoid_at s d)) (object_at s j) ≡ true) (sym new.0)
          (subst (λ e. of_object true (may_hold (avoid_at s e)) (object_at s k) ≡ true) (sym new.1) may))
    ]) all
