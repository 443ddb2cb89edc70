-- What a thread observes on the way to an address, and that it may write where it does.
use Rattle.std.proofs.Common.{◌≡◌, ℕ, suc, ◌+◌, ◌*◌, ◌%◌, ◌/◌, Bool, true, false, cond, not, ◌&&◌, nat_lt}
use Rattle.std.proofs.Common.{List, [], ◌∷◌, ◌++◌, Option, Some, None, refl, sym, ◌∙◌, ap, subst, arith, slice_get, is_none}
use Rattle.std.specs.List.{list_all}
use Rattle.std.proofs.lemmas.Bool.{and_parts, and_from, both_ways}
use Rattle.base.specs.Live.{has}
use Rattle.base.specs.Sets.{may_write, reading}
use Rattle.base.specs.declared.sets.Rights.{Rights}
use Rattle.kernel_rules.specs.State.{State, is_immutable, flows_to, page_count, observes, is_accessible, list_at}
use Rattle.kernel_rules.specs.State.{slots_at, is_live_kind}
use Rattle.base.specs.declared.kinds.Kind.TheVariants as kinds
use Rattle.kernel_rules.specs.Conditions.{allows}
use Rattle.kernel_rules.specs.Translate.{place_at, place_by, place_among, place_of, slots_through}
use Rattle.kernel_rules.specs.Translate.{own_space, translate, through, through_space, usable, opens}
use Rattle.kernel_rules.specs.Translate.{covers, slot_at, slot_in, names_none}
use Rattle.kernel_rules.specs.declared.calls.Entry.{Entry}
use Rattle.kernel_rules.specs.declared.objects.Mapping.{Mapping}
use Rattle.kernel_rules.specs.declared.places.Place.{Place}
use Rattle.flow_rules.specs.Touched.{both_of, both_if, both_mapped, covering, on_the_way, segment_of}

-- each is observed
abbrev pub All : State → ℕ → List ℕ → Type 0
All s t ids = list_all (observes s t) ids ≡ true

pub two : (p : ℕ → Bool) (a b : ℕ) → p a ≡ true → p b ≡ true → list_all p (a ∷ b ∷ []) ≡ true
two p a b first second = and_from (p a) (p b && true) first (and_from (p b) true second refl)

pub all_joined : (p : ℕ → Bool) (xs ys : List ℕ) → list_all p xs ≡ true → list_all p ys ≡ true
    → list_all p (xs ++ ys) ≡ true
all_joined p [] ys hx hy = hy
all_joined p (x ∷ xs) ys hx hy =
    let parts : (p x ≡ true) × (list_all p xs ≡ true) = and_parts (p x) (list_all p xs) hx in
    and_from (p x) (list_all p (xs ++ ys)) parts.0 (all_joined p xs ys parts.1 hy)

-- both of an entry that opens
opened : (s : State) (t : ℕ) (e : Entry) → opens s t e ≡ true → All s t (both_of e)
opened s t e h =
    let parts : ((is_accessible s t e.container && has (list_at s e.container) e.object) ≡ true)
    × (observes s t e.object ≡ true) =
    and_parts (is_accessible s t e.container && has (list_at s e.container) e.object) (observes s t e.object) h in
    let access : is_accessible s t e.container ≡ true =
    (and_parts (is_accessible s t e.container) (has (list_at s e.container) e.object) parts.0).0 in
    two (observes s t) e.container e.object
    (and_parts (is_live_kind s kinds.Container e.container) (observes s t e.container) access).1 parts.1

-- what the slot shows is observed, and may be written where the thread's label is at most its
record Shows (s : State) (t : ℕ) (m : Option Mapping) (shown : ℕ × Rights) : Type 0 where
  seen : All s t (both_mapped m)
  writes : may_write shown.1 ≡ true → flows_to s t shown.0 ≡ true

usable_flows : (s : State) (t o : ℕ) (r : Rights) → may_write (usable s t o r) ≡ true
    → flows_to s t o ≡ true
usable_flows s t o r =
    elim (flows_to s t o && not (is_immutable s o))
    as (λ v. (flows_to s t o && not (is_immutable s o)) ≡ v → may_write (cond v r (reading r)) ≡ true
    → flows_to s t o ≡ true) [
      | true ↦ λ is h. (and_parts (flows_to s t o) (not (is_immutable s o)) is).0
      | false ↦ λ is h. absurd (both_ways (may_write (reading r)) refl h)
    ] refl

through_shows : (s : State) (t : ℕ) (m : Option Mapping) (shown : ℕ × Rights) → through s t m ≡ Some shown
    → Shows s t m shown
through_shows s t None shown h = absurd (cc)
through_shows s t (Some m) shown h =
    elim (opens s t m.entry)
    as (λ v. opens s t m.entry ≡ v
    → cond v (Some (m.entry.object, usable s t m.entry.object m.rights)) None ≡ Some shown
    → Shows s t (Some m) shown) [
      | true ↦ λ is g.
          let same : (m.entry.object, usable s t m.entry.object m.rights) ≡ shown = cc in
          subst (λ (p : ℕ × Rights). Shows s t (Some m) p) same
          (record { seen = opened s t m.entry is; writes = usable_flows s t m.entry.object m.rights })
      | false ↦ λ is g. absurd (cc)
    ] refl h

space_shows : (s : State) (t i : ℕ) (e : Entry) (shown : ℕ × Rights) → through_space s t i (Some e) ≡ Some shown
    → All s t (both_of e) × Shows s t (slot_at s e.object i) shown
space_shows s t i e shown h =
    elim (not (names_none e) && opens s t e)
    as (λ v. (not (names_none e) && opens s t e) ≡ v → cond v (through s t (slot_at s e.object i)) None ≡ Some shown
    → All s t (both_of e) × Shows s t (slot_at s e.object i) shown) [
      | true ↦ λ is g. (
        opened s t e (and_parts (not (names_none e)) (opens s t e) is).1,
        through_shows s t (slot_at s e.object i) shown g,
      )
      | false ↦ λ is g. absurd (cc)
    ] refl h

translated : (s : State) (t i : ℕ) (e : Entry) (shown : ℕ × Rights) → own_space s t ≡ Some e
    → translate s t i ≡ Some shown → All s t (both_of e) × Shows s t (slot_at s e.object i) shown
unfolding translate
translated s t i e shown own h =
    space_shows s t i e shown (ap (through_space s t i) (sym own) ∙ h)

-- at the end of the way: all is observed, and the place's segment may be written as said
record Led (s : State) (t : ℕ) (e : Entry) (m : Option Mapping) (p : Place) : Type 0 where
  space : All s t (both_of e)
  mapped : All s t (both_mapped m)
  writes : may_write p.rights ≡ true → flows_to s t p.segment ≡ true

placed_at : (s : State) (t address n : ℕ) (shown : ℕ × Rights) (p : Place)
    → (may_write shown.1 ≡ true → flows_to s t shown.0 ≡ true) → place_at s address n shown ≡ Some p
    → may_write p.rights ≡ true → flows_to s t p.segment ≡ true
placed_at s t address n shown p free h =
    elim (nat_lt n (page_count s shown.0))
    as (λ v. cond v (Some (record { segment = shown.0; offset = 256 * n + address % 256; rights = shown.1 })) None
    ≡ Some p → may_write p.rights ≡ true → flows_to s t p.segment ≡ true) [
      | true ↦ λ is.
          let same : (record { segment = shown.0; offset = 256 * n + address % 256; rights = shown.1 }) ≡ p = cc
          in
          subst (λ (q : Place). may_write q.rights ≡ true → flows_to s t q.segment ≡ true) same free
      | false ↦ λ is. absurd (cc)
    ] h

by_slot : (s : State) (t i address : ℕ) (e : Entry) (m : Option Mapping) (p : Place) → own_space s t ≡ Some e
    → slot_at s e.object i ≡ m → place_by s address m (translate s t i) ≡ Some p → Led s t e m p
by_slot s t i address e None p own is h = absurd (cc)
by_slot s t i address e (Some m) p own at h =
    elim (translate s t i)
    as (λ v. translate s t i ≡ v → place_by s address (Some m) v ≡ Some p → Led s t e (Some m) p) [
      | None ↦ λ is g. absurd (cc)
      | Some shown ↦ λ is g.
          let led : All s t (both_of e) × Shows s t (slot_at s e.object i) shown = translated s t i e shown own is in
          record {
            space = led.0;
            mapped = subst (λ (v : Option Mapping). All s t (both_mapped v)) at led.1.seen;
            writes = placed_at s t address _ shown p led.1.writes g;
          }
    ] refl h

among : (s : State) (t address i : ℕ) (e : Entry) (ms : List (Option Mapping)) (p : Place)
    → own_space s t ≡ Some e
    → ((k : ℕ) → slice_get ms k ≡ slice_get (slots_at s e.object) (i + k))
    → place_among s t address i ms ≡ Some p → Led s t e (covering (address / 256) ms) p
among s t address i e [] p own here h = absurd (cc)
among s t address i e (m ∷ ms) p own here h =
    elim (covers (address / 256) m)
    as (λ v. cond v (place_by s address m (translate s t i)) (place_among s t address (i + 1) ms) ≡ Some p
    → Led s t e (cond v m (covering (address / 256) ms)) p) [
      | true ↦ λ g.
          let at : Some m ≡ slice_get (slots_at s e.object) i =
          here 0 ∙ ap (slice_get (slots_at s e.object)) (omega arith) in
          by_slot s t i address e m p own (ap slot_in (sym at)) g
      | false ↦ λ g. among s t address (i + 1) e ms p own (λ k.
          here (suc k) ∙ ap (slice_get (slots_at s e.object)) (omega arith)) g
    ] h

pub led_to : (s : State) (t address : ℕ) (p : Place) → place_of s t address ≡ Some p
    → All s t (on_the_way s t address) × (may_write p.rights ≡ true → flows_to s t p.segment ≡ true)
unfolding place_of
led_to s t address p h =
    elim (own_space s t)
    as (λ v. own_space s t ≡ v → place_among s t address 0 (slots_through s v) ≡ Some p
    → All s t (both_if v ++ both_mapped (covering (address / 256) (slots_through s v)))
    × (may_write p.rights ≡ true → flows_to s t p.segment ≡ true)) [
      | None ↦ λ is g. absurd (cc)
      | Some e ↦ λ is g.
          let led : Led s t e (covering (address / 256) (slots_at s e.object)) p =
          among s t address 0 e (slots_at s e.object) p is
          (λ k. ap (slice_get (slots_at s e.object)) (omega arith)) g in (
            all_joined (observes s t) (both_of e) (both_mapped (covering (address / 256) (slots_at s e.object)))
                led.space led.mapped,
            led.writes,
          )
    ] refl h

-- a place that is there
pub there : {X : Type 0} (v : Option X) → is_none v ≡ false → (x : X) × (v ≡ Some x)
there None h = absurd (cc)
there (Some x) h = (x, refl)

pub way_seen : (s : State) (t address : ℕ) → is_none (place_of s t address) ≡ false
    → All s t (on_the_way s t address)
way_seen s t address h =
    let found = there (place_of s t address) h in (led_to s t address found.0 found.1).0

-- where writing is allowed
pub way_flows : (s : State) (t address : ℕ) → is_none (place_of s t address) ≡ false
    → allows may_write (place_of s t address) ≡ true
    → list_all (flows_to s t) (segment_of (place_of s t address)) ≡ true
way_flows s t address h allowed =
    let found = there (place_of s t address) h in
    subst (λ (v : Option Place). list_all (flows_to s t) (segment_of v) ≡ true) (sym found.1)
    (and_from (flows_to s t found.0.segment) true
    ((led_to s t address found.0 found.1).1
    (subst (λ (v : Option Place). allows may_write v ≡ true) found.1 allowed)) refl)
