-- What two worlds share, in which an observer sees the same, for a thread that observes no more than it.
use Rattle.std.proofs.Common.{◌≡◌, ℕ, ◌≤◌, Bool, true, false, cond, not, ◌&&◌, ◌||◌, ◌==◌, []}
use Rattle.std.proofs.Common.{Option, Some, None, refl, sym, ◌∙◌, ap, subst, arith, inl, inr}
use Rattle.std.specs.Option.{option_map}
use Rattle.std.proofs.lemmas.Bool.{and_parts, and_from, or_cases, eqb-true}
use Rattle.base.specs.Live.{has}
use Rattle.base.specs.declared.kinds.Kind as kind
use Rattle.base.specs.declared.kinds.Kind.TheVariants as kinds
use Rattle.label_lattice.specs.Label.{LabelValue}
use Rattle.label_lattice.specs.Order.{levels, up}
use Rattle.label_lattice.specs.Rule.{up_rank}
use Rattle.label_lattice.proofs.OrderLemmas.{leq_test-Leq, IsDescribed-levels, IsDescribed-up}
use Rattle.label_lattice.specs.LabelRules.{both, visible, shown}
use Rattle.kernel_rules.specs.State.{State, object_at, of_object, listed, is_kind, is_kind_at, is_live_kind}
use Rattle.kernel_rules.specs.State.{list_at, holds, observes, is_accessible, kind_number}
use Rattle.kernel_rules.specs.WellFormed.{is_well_formed}
use Rattle.kernel_rules.specs.declared.calls.Entry.{Entry}
use Rattle.kernel_rules.specs.declared.objects.Object.{Object}
use Rattle.kernel_rules.proofs.WellFormedLaws.{live_kind}
use Rattle.flow_rules.proofs.Sights.{labels, Labels}
use Rattle.worlds.specs.Seen.{if_visible, seen_at, outline_of, Outline, lists_seen, IsSame, is_within}
use Rattle.worlds.proofs.Unseen.{seen_is, read}

up_above : (a : ℕ) → a ≤ up_rank a
up_above a =
    elim (a == 0) as (λ v. (a == 0) ≡ v → a ≤ cond v 5 a) [
      | true ↦ λ is. let none : a ≡ 0 = eqb-true a 0 is in omega arith
      | false ↦ λ is. omega arith
    ] refl

-- a label whose levels are at most those of b with star raised, which are at most those of l
pub visible_within : (a b l : LabelValue) → visible a b ≡ true → shown b l ≡ true → visible a l ≡ true
unfolding visible shown
visible_within a b l h g =
    (leq_test-Leq (levels a) (up (levels l)) (IsDescribed-levels a) (IsDescribed-up _ (IsDescribed-levels l))).1
    (λ c.
    let first : (levels a).at c ≤ (up (levels b)).at c =
    (leq_test-Leq (levels a) (up (levels b)) (IsDescribed-levels a) (IsDescribed-up _ (IsDescribed-levels b))).0
    h c in
    let second : (up (levels b)).at c ≤ (up (levels l)).at c =
    (leq_test-Leq (up (levels b)) (up (levels l)) (IsDescribed-up _ (IsDescribed-levels b))
    (IsDescribed-up _ (IsDescribed-levels l))).0 g c in
    omega arith)

pub shown_within : (a b l : LabelValue) → shown a b ≡ true → shown b l ≡ true → shown a l ≡ true
unfolding shown
shown_within a b l h g =
    (leq_test-Leq (up (levels a)) (up (levels l)) (IsDescribed-up _ (IsDescribed-levels a))
    (IsDescribed-up _ (IsDescribed-levels l))).1
    (λ c.
    let first : (up (levels a)).at c ≤ (up (levels b)).at c =
    (leq_test-Leq (up (levels a)) (up (levels b)) (IsDescribed-up _ (IsDescribed-levels a))
    (IsDescribed-up _ (IsDescribed-levels b))).0 h c in
    let second : (up (levels b)).at c ≤ (up (levels l)).at c =
    (leq_test-Leq (up (levels b)) (up (levels l)) (IsDescribed-up _ (IsDescribed-levels b))
    (IsDescribed-up _ (IsDescribed-levels l))).0 g c in
    omega arith)

pub shown_visible : (a l : LabelValue) → shown a l ≡ true → visible a l ≡ true
unfolding visible shown
shown_visible a l h =
    (leq_test-Leq (levels a) (up (levels l)) (IsDescribed-levels a) (IsDescribed-up _ (IsDescribed-levels l))).1
    (λ c.
    let first : (up (levels a)).at c ≤ (up (levels l)).at c =
    (leq_test-Leq (up (levels a)) (up (levels l)) (IsDescribed-up _ (IsDescribed-levels a))
    (IsDescribed-up _ (IsDescribed-levels l))).0 h c in
    let raised : (levels a).at c ≤ up_rank ((levels a).at c) = up_above ((levels a).at c) in
    omega arith)

-- l sees the same in both, and all that t observes
pub record Worlds (l : LabelValue) (s n : State) (t : ℕ) : Type 0 where
  pub sound : is_well_formed s ≡ true
  pub sound_too : is_well_formed n ≡ true
  pub same : IsSame l s n
  pub within : is_within l s t ≡ true

pub seen_if : (l : LabelValue) (s : State) (o : ℕ) (x : Object) → object_at s o ≡ Some x
    → visible x.label l ≡ true → seen_at l s o ≡ Some x
seen_if l s o x found h = ap (if_visible l) found ∙ ap (λ b. cond b (Some x) None) h

-- what l sees is recorded in both
pub seen_object : (l : LabelValue) (s n : State) (o : ℕ) (x : Object) → IsSame l s n → object_at s o ≡ Some x
    → visible x.label l ≡ true → object_at n o ≡ object_at s o
seen_object l s n o x same found h =
    (seen_is l (object_at n o) x (same.objects o ∙ seen_if l s o x found h)).0 ∙ sym found

-- the caller
pub record Caller (l : LabelValue) (s : State) (t : ℕ) : Type 0 where
  pub object : Object
  pub found : object_at s t ≡ Some object
  pub within : shown object.label l ≡ true

pub caller_of : (l : LabelValue) (s : State) (t : ℕ) → is_within l s t ≡ true → Caller l s t
caller_of l s t h =
    elim (object_at s t)
    as (λ v. object_at s t ≡ v → both shown (option_map (λ x. x.label) v) (Some l) ≡ true → Caller l s t) [
      | None ↦ λ is g. absurd (cc)
      | Some x ↦ λ is g. record { object = x; found = is; within = g }
    ] refl h

pub caller_same : (l : LabelValue) (s n : State) (t : ℕ) → Worlds l s n t → object_at n t ≡ object_at s t
caller_same l s n t w =
    let c : Caller l s t = caller_of l s t w.within in
    seen_object l s n t c.object w.same c.found (shown_visible c.object.label l c.within)

pub flip : (l : LabelValue) (s n : State) (t : ℕ) → Worlds l s n t → Worlds l n s t
flip l s n t w = record {
  sound = w.sound_too;
  sound_too = w.sound;
  same = record {
    objects = λ o. sym (w.same.objects o);
    told = λ d o. sym (w.same.told d o);
    parents = λ d. sym (w.same.parents d);
  };
  within = ap (λ v. both shown (option_map (λ x. x.label) v) (Some l)) (caller_same l s n t w) ∙ w.within;
}

-- what t observes l sees, and is the same in both
pub observed_seen : (l : LabelValue) (s : State) (t o : ℕ) → is_within l s t ≡ true → observes s t o ≡ true
    → (x : Object) × (object_at s o ≡ Some x) × (visible x.label l ≡ true)
observed_seen l s t o within h =
    let b : Labels s visible o t = labels s visible o t h in
    let by : shown b.second.label l ≡ true =
    ap (λ v. both shown (option_map (λ x. x.label) v) (Some l)) (sym b.is_second) ∙ within in
    (b.first, b.is_first, visible_within b.first.label b.second.label l b.holds by)

pub observed_same : (l : LabelValue) (s n : State) (t o : ℕ) → Worlds l s n t → observes s t o ≡ true
    → object_at n o ≡ object_at s o
observed_same l s n t o w h =
    let seen = observed_seen l s t o w.within h in
    seen_object l s n o seen.0 w.same seen.1 seen.2

-- two tests of which each implies the other
pub equal_tests : (a b : Bool) → (a ≡ true → b ≡ true) → (b ≡ true → a ≡ true) → a ≡ b
equal_tests true true f g = refl
equal_tests true false f g = sym (f refl)
equal_tests false true f g = g refl
equal_tests false false f g = refl

observes_too : (l : LabelValue) (s n : State) (t o : ℕ) → Worlds l s n t → observes s t o ≡ true
    → observes n t o ≡ true
observes_too l s n t o w h =
    (λ i. both visible (option_map (λ x. x.label) (observed_same l s n t o w h i))
    (option_map (λ x. x.label) (caller_same l s n t w i))) ∙ h

pub same_observes : (l : LabelValue) (s n : State) (t o : ℕ) → Worlds l s n t
    → observes n t o ≡ observes s t o
same_observes l s n t o w =
    equal_tests (observes n t o) (observes s t o) (observes_too l n s t o (flip l s n t w))
    (observes_too l s n t o w)

same_live_kind : (s n : State) (k : kind.Kind) (o : ℕ) → is_well_formed s ≡ true → is_well_formed n ≡ true
    → object_at n o ≡ object_at s o → is_live_kind n k o ≡ is_live_kind s k o
same_live_kind s n k o sound sound_too same =
    sym (live_kind n k o sound_too) ∙ ap (of_object false (is_kind k)) same ∙ live_kind s k o sound

-- the caller is as live in both
pub same_halted : (l : LabelValue) (s n : State) (t : ℕ) → Worlds l s n t
    → not (is_live_kind n kinds.Thread t) ≡ not (is_live_kind s kinds.Thread t)
same_halted l s n t w =
    ap not (same_live_kind s n kinds.Thread t w.sound w.sound_too (caller_same l s n t w))

pub accessible_observed : (s : State) (t d : ℕ) → is_accessible s t d ≡ true → observes s t d ≡ true
accessible_observed s t d h = (and_parts (is_live_kind s kinds.Container d) (observes s t d) h).1

accessible_too : (l : LabelValue) (s n : State) (t d : ℕ) → Worlds l s n t → is_accessible s t d ≡ true
    → is_accessible n t d ≡ true
accessible_too l s n t d w h =
    let parts : (is_live_kind s kinds.Container d ≡ true) × (observes s t d ≡ true) =
    and_parts (is_live_kind s kinds.Container d) (observes s t d) h in
    and_from (is_live_kind n kinds.Container d) (observes n t d)
    (same_live_kind s n kinds.Container d w.sound w.sound_too (observed_same l s n t d w parts.1) ∙ parts.0)
    (observes_too l s n t d w parts.1)

pub same_accessible : (l : LabelValue) (s n : State) (t d : ℕ) → Worlds l s n t
    → is_accessible n t d ≡ is_accessible s t d
same_accessible l s n t d w =
    equal_tests (is_accessible n t d) (is_accessible s t d) (accessible_too l n s t d (flip l s n t w))
    (accessible_too l s n t d w)

-- a container that t may name
pub container_same : (l : LabelValue) (s n : State) (t d : ℕ) → Worlds l s n t → is_accessible s t d ≡ true
    → object_at n d ≡ object_at s d
container_same l s n t d w h = observed_same l s n t d w (accessible_observed s t d h)

pub same_holds : (l : LabelValue) (s n : State) (t : ℕ) (e : Entry) → Worlds l s n t
    → is_accessible s t e.container ≡ true → holds n e ≡ holds s e
same_holds l s n t e w h =
    ap (λ v. of_object false (is_kind kinds.Container) v
    && (has (of_object [] (λ x. listed x.body) v) e.object || e.object == e.container))
    (container_same l s n t e.container w h)

-- the outline of what a container lists that l sees
pub told_same : (l : LabelValue) (s n : State) (d o : ℕ) → IsSame l s n → lists_seen l s d o ≡ true
    → read outline_of n o ≡ read outline_of s o
told_same l s n d o same h =
    let too : lists_seen l n d o ≡ true =
    ap (of_object false (λ x. has (listed x.body) o)) (same.objects d) ∙ h in
    sym (ap (λ b. cond b (read outline_of n o) None) too) ∙ same.told d o
    ∙ ap (λ b. cond b (read outline_of s o) None) h

pub lists_accessible : (l : LabelValue) (s n : State) (t d o : ℕ) → Worlds l s n t
    → is_accessible s t d ≡ true → has (list_at s d) o ≡ true → lists_seen l s d o ≡ true
lists_accessible l s n t d o w access h =
    let seen = observed_seen l s t d w.within (accessible_observed s t d access) in
    ap (of_object false (λ x. has (listed x.body) o)) (seen_if l s d seen.0 seen.1 seen.2)
    ∙ sym (ap (λ v. has (of_object [] (λ x. listed x.body) v) o) seen.1) ∙ h

-- what t may name has the same outline in both
pub named_same : (l : LabelValue) (s n : State) (t : ℕ) (e : Entry) → Worlds l s n t
    → is_accessible s t e.container ≡ true → holds s e ≡ true
    → read outline_of n e.object ≡ read outline_of s e.object
named_same l s n t e w access held =
    elim (or_cases (has (list_at s e.container) e.object) (e.object == e.container)
    (and_parts (is_kind_at s kinds.Container e.container)
    (has (list_at s e.container) e.object || e.object == e.container) held).1) [
      | inl lists ↦ told_same l s n e.container e.object w.same
          (lists_accessible l s n t e.container e.object w access lists)
      | inr itself ↦
          ap (option_map outline_of)
          (subst (λ o. object_at n o ≡ object_at s o) (sym (eqb-true e.object e.container itself))
          (container_same l s n t e.container w access))
    ]

-- the kind of an outline
abbrev pub outlined_kind : kind.Kind → Option Outline → Bool
outlined_kind k None = false
outlined_kind k (Some u) = kind_number u.kind == kind_number k

kind_is : (k : kind.Kind) (v : Option Object)
    → of_object false (is_kind k) v ≡ outlined_kind k (option_map outline_of v)
kind_is k None = refl
kind_is k (Some x) = refl

pub same_kind : (l : LabelValue) (s n : State) (t : ℕ) (k : kind.Kind) (e : Entry) → Worlds l s n t
    → is_accessible s t e.container ≡ true → holds s e ≡ true
    → is_kind_at n k e.object ≡ is_kind_at s k e.object
same_kind l s n t k e w access held =
    kind_is k (object_at n e.object) ∙ ap (outlined_kind k) (named_same l s n t e w access held)
    ∙ sym (kind_is k (object_at s e.object))

-- the quota of an outline
abbrev outlined_quota : Option Outline → ℕ
outlined_quota None = 0
outlined_quota (Some u) = u.quota

quota_is : (v : Option Object) → of_object 0 (λ x. x.quota) v ≡ outlined_quota (option_map outline_of v)
quota_is None = refl
quota_is (Some x) = refl

pub same_quota : (s n : State) (o : ℕ) → read outline_of n o ≡ read outline_of s o
    → of_object 0 (λ x. x.quota) (object_at n o) ≡ of_object 0 (λ x. x.quota) (object_at s o)
same_quota s n o h = quota_is (object_at n o) ∙ ap outlined_quota h ∙ sym (quota_is (object_at s o))
