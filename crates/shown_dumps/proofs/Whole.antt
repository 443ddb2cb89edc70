-- No object stands deeper than the root has pages: what a container lists has a smaller quota than the container.
use Rattle.std.proofs.Common.{◌≡◌, ℕ, ◌+◌, ◌≤◌, true, List, [], ◌∷◌, ◌++◌, sum_by, Option, Some, None, refl, ap, ◌∙◌, arith, suc, zero}
use Rattle.std.proofs.Math.Nat.{suc-add}
use Rattle.std.proofs.lemmas.List.Sums.{sum_by-cons}
use Rattle.std.specs.List.{flat_map}
use Rattle.kernel_rules.proofs.QuotaLaws.{use_fits}
use Rattle.kernel_rules.specs.State.{State, object_at, of_object, listed, list_at, quota_at, own_cost, cost_at}
use Rattle.kernel_rules.specs.WellFormed.{is_well_formed}
use Rattle.kernel_rules.specs.declared.objects.Body as body
use Rattle.kernel_rules.specs.declared.objects.Body.TheVariants as is
use Rattle.kernel_rules.specs.declared.objects.Object.{Object}
use Rattle.shown_dumps.specs.TreePlaces.{below, walk}
use Rattle.shown_dumps.specs.declared.tree.places.Place.{Place}

costs : (b : body.Body) → 1 ≤ own_cost b
costs (is.Segment bytes) = omega arith
costs (is.Container avoid list) = omega arith
costs (is.AddressSpace slots) = omega arith
costs (is.Thread t) = omega arith
costs (is.Gate g) = omega arith
costs (is.Device packets) = omega arith

-- nothing is told of a place with no object
abbrev pub IsOfObjects : State → (Place → List ℕ) → Type 0
IsOfObjects s told = (p : Place) → object_at s p.id ≡ None → told p ≡ []

none_there : (opened closed : Place → List ℕ) (s : State) (levels : ℕ) (p : Place) → object_at s p.id ≡ None → opened p ≡ []
    → closed p ≡ [] → walk opened closed s levels p ≡ []
none_there opened closed s zero p gone first last = refl
none_there opened closed s (suc levels) p gone first last =
    λ i. first i ++ flat_map (λ id. walk opened closed s levels (below p id)) (of_object [] (λ (x : Object). listed x.body) (gone i)) ++ last i

-- each object has a quota
absent : (s : State) → is_well_formed s ≡ true → (o : ℕ) → quota_at s o ≤ 0 → object_at s o ≡ None
absent s h o none = elim (object_at s o) as (λ v. object_at s o ≡ v → object_at s o ≡ None) [
  | None ↦ λ gone. gone
  | Some x ↦ λ found.
      let cost : cost_at s o ≡ own_cost x.body = ap (of_object 0 (λ (y : Object). own_cost y.body)) found in
      let least = costs x.body in
      let fits = use_fits s o h in
      absurd (omega arith)
] refl

-- what a container lists has a quota less than it
room : (s : State) → is_well_formed s ≡ true → (o n : ℕ) → quota_at s o ≤ suc n → sum_by (quota_at s) (list_at s o) ≤ n
room s h o n small = elim (object_at s o) as (λ v. object_at s o ≡ v → sum_by (quota_at s) (list_at s o) ≤ n) [
  | None ↦ λ gone.
      let nothing : sum_by (quota_at s) (list_at s o) ≡ 0 =
      ap (λ (v : Option Object). sum_by (quota_at s) (of_object [] (λ (x : Object). listed x.body) v)) gone in
      omega arith
  | Some x ↦ λ found.
      let cost : cost_at s o ≡ own_cost x.body = ap (of_object 0 (λ (y : Object). own_cost y.body)) found in
      let least = costs x.body in
      let fits = use_fits s o h in
      omega arith
] refl

-- texts of ids that are the same for each with a small quota are the same together
same_each : (f g : ℕ → List ℕ) (q : ℕ → ℕ) (n : ℕ) → ((i : ℕ) → q i ≤ n → f i ≡ g i)
    → (ids : List ℕ) → sum_by q ids ≤ n → flat_map f ids ≡ flat_map g ids
same_each f g q n each [] within = refl
same_each f g q n each (i ∷ ids) within =
    let all = sum_by-cons q i ids in
    let first : q i ≤ n = omega arith in
    let rest : sum_by q ids ≤ n = omega arith in
    ap (λ l. l ++ flat_map f ids) (each i first) ∙ ap (λ l. g i ++ l) (same_each f g q n each ids rest)

-- more levels than the quota of a place show no more
pub no_deeper : (opened closed : Place → List ℕ) (s : State) → IsOfObjects s opened → IsOfObjects s closed → is_well_formed s ≡ true
    → (n more : ℕ) (p : Place) → quota_at s p.id ≤ n → walk opened closed s (n + more) p ≡ walk opened closed s n p
no_deeper opened closed s begins ends h zero more p small =
    let gone = absent s h p.id small in
    none_there opened closed s (0 + more) p gone (begins p gone) (ends p gone)
no_deeper opened closed s begins ends h (suc n) more p small =
    ap (λ m. walk opened closed s m p) (suc-add n more)
    ∙ ap (λ l. opened p ++ l ++ closed p)
    (same_each (λ id. walk opened closed s (n + more) (below p id)) (λ id. walk opened closed s n (below p id)) (quota_at s) n
    (λ id less. no_deeper opened closed s begins ends h n more (below p id) less) (list_at s p.id) (room s h p.id n small))

-- what is told by the object at a place is told of no other
pub of_objects : (s : State) (told : Place → Object → List ℕ) → IsOfObjects s (λ p. of_object [] (told p) (object_at s p.id))
of_objects s told p gone = ap (λ (v : Option Object). of_object [] (told p) v) gone
