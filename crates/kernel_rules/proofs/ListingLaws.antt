-- A container with one id more in its list.
use Rattle.std.proofs.Common.{◌≡◌, ◌≢◌, ℕ, Bool, true, false, not, ◌&&◌, ◌||◌, ◌==◌, List, []}
use Rattle.std.proofs.Common.{◌∷◌, ◌++◌, length, Some, None, is_some, refl, sym, ◌∙◌, ap, subst}
use Rattle.std.specs.List.{list_all}
use Rattle.std.proofs.lemmas.Bool.{and_parts, and_from, both_ways, eqb-true, eq-eqb}
use Rattle.std.proofs.lemmas.List.Folds.{list_any-append}
use Rattle.base.specs.Live.{has}
use Rattle.base.specs.declared.kinds.Kind.TheVariants as kinds
use Rattle.base.proofs.LiveLaw.{or_left, or_right}
use Rattle.kernel_rules.specs.State.{State, object_at, of_object, is_kind, is_kind_at, listed}
use Rattle.kernel_rules.specs.State.{own_cost}
use Rattle.kernel_rules.specs.Changes.{relist, listing}
use Rattle.kernel_rules.specs.WellFormed.{is_whole, is_whole_body, is_stored, is_distinct}
use Rattle.kernel_rules.specs.declared.objects.Object.{Object}
use Rattle.kernel_rules.specs.declared.objects.Body as body
use Rattle.kernel_rules.specs.declared.objects.Body.TheVariants as is

-- what an object of kind container is
pub record IsContainerAt (s : State) (d : ℕ) : Type 0 where
  pub object : Object
  pub found : object_at s d ≡ Some object
  pub kind : is_kind kinds.Container object ≡ true

pub container_at : (s : State) (d : ℕ) → is_kind_at s kinds.Container d ≡ true → IsContainerAt s d
container_at s d h =
    elim (object_at s d)
    as (λ v. object_at s d ≡ v → of_object false (is_kind kinds.Container) v ≡ true → IsContainerAt s d) [
      | None ↦ λ is k. absurd (both_ways false refl k)
      | Some x ↦ λ is k. record { object = x; found = is; kind = k }
    ] refl h

-- a container with one id more, in words of its body
pub listed-listing : (x : Object) (k : ℕ) → is_kind kinds.Container x ≡ true
    → listed (listing k x).body ≡ listed x.body ++ k ∷ []
listed-listing x k h = body_listed x.body h
  where
    body_listed : (y : body.Body) → is_kind kinds.Container (record x { body = y }) ≡ true
        → listed (relist (λ ids. ids ++ k ∷ []) y) ≡ listed y ++ k ∷ []
    body_listed (is.Container avoid list) h = refl
    body_listed (is.Segment bytes) h = absurd (both_ways false refl h)
    body_listed (is.AddressSpace slots) h = absurd (both_ways false refl h)
    body_listed (is.Thread t) h = absurd (both_ways false refl h)
    body_listed (is.Gate g) h = absurd (both_ways false refl h)
    body_listed (is.Device packets) h = absurd (both_ways false refl h)

pub cost-listing : (x : Object) (k : ℕ) → own_cost (listing k x).body ≡ own_cost x.body
cost-listing x k = body_cost x.body
  where
    body_cost : (y : body.Body) → own_cost (relist (λ ids. ids ++ k ∷ []) y) ≡ own_cost y
    body_cost (is.Container avoid list) = refl
    body_cost (is.Segment bytes) = refl
    body_cost (is.AddressSpace slots) = refl
    body_cost (is.Thread t) = refl
    body_cost (is.Gate g) = refl
    body_cost (is.Device packets) = refl

pub whole-listing : (x : Object) (k : ℕ) → is_whole (listing k x) ≡ is_whole x
whole-listing x k = ap (λ b. is_stored x.label && length x.metadata == 64 && b) (body_whole x.body)
  where
    body_whole : (y : body.Body) → is_whole_body (relist (λ ids. ids ++ k ∷ []) y) ≡ is_whole_body y
    body_whole (is.Container avoid list) = refl
    body_whole (is.Segment bytes) = refl
    body_whole (is.AddressSpace slots) = refl
    body_whole (is.Thread t) = refl
    body_whole (is.Gate g) = refl
    body_whole (is.Device packets) = refl

pub kind-listing : (x : Object) (k : ℕ) → is_kind kinds.Container (listing k x) ≡ is_kind kinds.Container x
kind-listing x k = body_kind x.body
  where
    body_kind : (y : body.Body)
        → is_kind kinds.Container (record x { body = relist (λ ids. ids ++ k ∷ []) y })
        ≡ is_kind kinds.Container (record x { body = y })
    body_kind (is.Container avoid list) = refl
    body_kind (is.Segment bytes) = refl
    body_kind (is.AddressSpace slots) = refl
    body_kind (is.Thread t) = refl
    body_kind (is.Gate g) = refl
    body_kind (is.Device packets) = refl

-- a longer list has what the shorter one had, and what was linked
pub has_wider : (x : Object) (k b : ℕ) → is_kind kinds.Container x ≡ true → has (listed x.body) b ≡ true
    → has (listed (listing k x).body) b ≡ true
has_wider x k b kind h =
    ap (λ l. has l b) (listed-listing x k kind) ∙ list_any-append (λ i. b == i) (listed x.body) (k ∷ [])
    ∙ or_left _ _ h

pub has_new : (x : Object) (k : ℕ) → is_kind kinds.Container x ≡ true → has (listed (listing k x).body) k ≡ true
has_new x k kind =
    ap (λ l. has l k) (listed-listing x k kind) ∙ list_any-append (λ i. k == i) (listed x.body) (k ∷ [])
    ∙ or_right _ _ (or_left _ _ (eq-eqb k k refl))

pub has-append_other : (ids : List ℕ) (k b : ℕ) → b ≢ k → has (ids ++ k ∷ []) b ≡ has ids b
has-append_other ids k b other = list_any-append (λ i. b == i) ids (k ∷ []) ∙
    elim (b == k) as (λ v. (b == k) ≡ v → (has ids b || (v || false)) ≡ has ids b) [
      | true ↦ λ is. absurd (other (eqb-true b k is))
      | false ↦ λ is. or_none (has ids b)
    ] refl
  where
    or_none : (v : Bool) → (v || (false || false)) ≡ v
    or_none true = refl
    or_none false = refl

pub distinct-append : (ids : List ℕ) (k : ℕ) → is_distinct ids ≡ true → has ids k ≡ false
    → is_distinct (ids ++ k ∷ []) ≡ true
distinct-append [] k d h = refl
distinct-append (i ∷ ids) k d h =
    let both : (not (has ids i) ≡ true) × (is_distinct ids ≡ true) =
    and_parts (not (has ids i)) (is_distinct ids) d in
    elim (k == i)
    as (λ v. (k == i) ≡ v → (v || has ids k) ≡ false
    → (not (has (ids ++ k ∷ []) i) && is_distinct (ids ++ k ∷ [])) ≡ true) [
      | true ↦ λ is n. absurd (both_ways true n refl)
      | false ↦ λ is n.
          let other : i ≢ k = (λ e. both_ways (k == i) is (eq-eqb k i (sym e))) in
          and_from (not (has (ids ++ k ∷ []) i)) (is_distinct (ids ++ k ∷ []))
          (ap not (has-append_other ids k i other) ∙ both.0) (distinct-append ids k both.1 n)
    ] refl h

-- a listed id was given: k, which was not, is in no list
pub not_listed : (s : State) (k : ℕ) (ids : List ℕ) → object_at s k ≡ None
    → list_all (λ i. is_some (object_at s i)) ids ≡ true → has ids k ≡ false
not_listed s k [] absent h = refl
not_listed s k (i ∷ ids) absent h =
    let both : (is_some (object_at s i) ≡ true) × (list_all (λ i. is_some (object_at s i)) ids ≡ true) =
    and_parts (is_some (object_at s i)) (list_all (λ i. is_some (object_at s i)) ids) h in
    elim (k == i) as (λ v. (k == i) ≡ v → (v || has ids k) ≡ false) [
      | true ↦ λ is. absurd
          (both_ways (is_some (object_at s i))
          (subst (λ j. is_some (object_at s j) ≡ false) (eqb-true k i is) (ap is_some absent)) both.0)
      | false ↦ λ is. not_listed s k ids absent both.1
    ] refl
