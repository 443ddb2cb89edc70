-- Where an address of a thread lies in two worlds, in which an observer sees the same of all that it observes.
use Rattle.std.proofs.Common.{◌≡◌, ℕ, ◌+◌, ◌/◌, Bool, true, false, cond, not, ◌&&◌, nat_lt, List, [], ◌∷◌}
use Rattle.std.proofs.Common.{Option, Some, None, refl, sym, ◌∙◌, ap, subst, length, slice_get, ◌-◌, ◌*◌, ◌%◌}
use Rattle.std.specs.Option.{option_map, option_and_then}
use Rattle.std.proofs.lemmas.Bool.{and_parts, and_from}
use Rattle.base.specs.Live.{has}
use Rattle.base.specs.Sets.{reading}
use Rattle.base.specs.declared.sets.Rights.{Rights}
use Rattle.label_lattice.specs.Label.{LabelValue}
use Rattle.label_lattice.specs.LabelRules.{both, below}
use Rattle.kernel_rules.specs.State.{State, object_at, of_object, observes, flows_to, is_accessible, list_at, listed}
use Rattle.kernel_rules.specs.State.{slots_at, slots_of, page_count, bytes_of, thread_of}
use Rattle.kernel_rules.specs.Translate.{opens, usable, through, through_space, translate, own_space, slot_at, slot_in}
use Rattle.kernel_rules.specs.Translate.{names_none, place_by, place_among, place_of, slots_through, covers}
use Rattle.kernel_rules.specs.declared.calls.Entry.{Entry}
use Rattle.kernel_rules.specs.declared.objects.Mapping.{Mapping}
use Rattle.kernel_rules.specs.declared.places.Place.{Place}
use Rattle.worlds.proofs.Shared.{Worlds, flip, caller_same, observed_same, container_same, equal_tests}
use Rattle.worlds.proofs.Shared.{same_observes, same_accessible}

pub same_flows : (l : LabelValue) (s n : State) (t o : ℕ) → Worlds l s n t → object_at n o ≡ object_at s o
    → flows_to n t o ≡ flows_to s t o
same_flows l s n t o w h =
    (λ i. both below (option_map (λ x. x.label) (caller_same l s n t w i)) (option_map (λ x. x.label) (h i)))

opens_parts : (s : State) (t : ℕ) (e : Entry) → opens s t e ≡ true
    → (is_accessible s t e.container ≡ true) × (has (list_at s e.container) e.object ≡ true)
    × (observes s t e.object ≡ true)
opens_parts s t e h =
    let last : ((is_accessible s t e.container && has (list_at s e.container) e.object) ≡ true)
    × (observes s t e.object ≡ true) =
    and_parts (is_accessible s t e.container && has (list_at s e.container) e.object) (observes s t e.object) h in
    let first : (is_accessible s t e.container ≡ true) × (has (list_at s e.container) e.object ≡ true) =
    and_parts (is_accessible s t e.container) (has (list_at s e.container) e.object) last.0 in
    (first.0, first.1, last.1)

opens_too : (l : LabelValue) (s n : State) (t : ℕ) (e : Entry) → Worlds l s n t → opens s t e ≡ true
    → opens n t e ≡ true
opens_too l s n t e w h =
    let p = opens_parts s t e h in
    and_from (is_accessible n t e.container && has (list_at n e.container) e.object) (observes n t e.object)
    (and_from (is_accessible n t e.container) (has (list_at n e.container) e.object)
    (same_accessible l s n t e.container w ∙ p.0)
    (ap (λ v. has (of_object [] (λ x. listed x.body) v) e.object) (container_same l s n t e.container w p.0) ∙ p.1))
    (same_observes l s n t e.object w ∙ p.2)

pub same_opens : (l : LabelValue) (s n : State) (t : ℕ) (e : Entry) → Worlds l s n t
    → opens n t e ≡ opens s t e
same_opens l s n t e w =
    equal_tests (opens n t e) (opens s t e) (opens_too l n s t e (flip l s n t w)) (opens_too l s n t e w)

same_usable : (l : LabelValue) (s n : State) (t o : ℕ) (rights : Rights) → Worlds l s n t
    → object_at n o ≡ object_at s o → usable n t o rights ≡ usable s t o rights
same_usable l s n t o rights w h =
    (λ i. cond (same_flows l s n t o w h i && not (of_object false (λ x. x.immutable) (h i))) rights (reading rights))

abbrev shows_as : ℕ → Rights → Option (ℕ × Rights)
shows_as o rights = Some (o, rights)

-- what an open mapping shows
abbrev shows : State → ℕ → Mapping → Option (ℕ × Rights)
shows s t m = Some (m.entry.object, usable s t m.entry.object m.rights)

same_through : (l : LabelValue) (s n : State) (t : ℕ) (m : Option Mapping) → Worlds l s n t
    → through n t m ≡ through s t m
same_through l s n t None w = refl
same_through l s n t (Some m) w =
    ap (λ b. cond b (shows n t m) None) (same_opens l s n t m.entry w)
    ∙ elim (opens s t m.entry)
    as (λ b. opens s t m.entry ≡ b → cond b (shows n t m) None ≡ cond b (shows s t m) None) [
      | true ↦ λ is. shown_alike (usable n t m.entry.object m.rights) (usable s t m.entry.object m.rights)
          (same_usable l s n t m.entry.object m.rights w
          (observed_same l s n t m.entry.object w (opens_parts s t m.entry is).2))
      | false ↦ λ is. refl
    ] refl
  where
    shown_alike : (a b : Rights) → a ≡ b
        → shows_as m.entry.object a ≡ shows_as m.entry.object b
    shown_alike a b h = ap (shows_as m.entry.object) h

-- what a mapping shows is observed
shown_observed : (s : State) (t : ℕ) (m : Option Mapping) (shown : ℕ × Rights) → through s t m ≡ Some shown
    → observes s t shown.0 ≡ true
shown_observed s t None shown h = absurd (cc)
shown_observed s t (Some m) shown h =
    elim (opens s t m.entry)
    as (λ b. opens s t m.entry ≡ b
    → cond b (Some (m.entry.object, usable s t m.entry.object m.rights)) None ≡ Some shown
    → observes s t shown.0 ≡ true) [
      | true ↦ λ is g.
          let same : (m.entry.object, usable s t m.entry.object m.rights) ≡ shown = cc in
          subst (λ (p : ℕ × Rights). observes s t p.0 ≡ true) same (opens_parts s t m.entry is).2
      | false ↦ λ is g. absurd (cc)
    ] refl h

same_pages : (s n : State) (o : ℕ) → object_at n o ≡ object_at s o → page_count n o ≡ page_count s o
same_pages s n o h = ap (λ v. length (of_object [] (λ x. bytes_of x.body) v) / 256) h

-- the place in a segment that this mapping shows
abbrev placed : ℕ → Mapping → ℕ × Rights → Place
placed address m shown = record {
  segment = shown.0;
  offset = 256 * (m.first + (address / 256 - m.page)) + address % 256;
  rights = shown.1;
}

-- by what a mapping shows
same_by : (l : LabelValue) (s n : State) (t address : ℕ) (m k : Option Mapping) → Worlds l s n t
    → place_by n address m (through s t k) ≡ place_by s address m (through s t k)
same_by l s n t address None k w = refl
same_by l s n t address (Some m) k w =
    elim (through s t k)
    as (λ v. through s t k ≡ v → place_by n address (Some m) v ≡ place_by s address (Some m) v) [
      | None ↦ λ is. refl
      | Some shown ↦ λ is.
          ap (λ p. cond (nat_lt (m.first + (address / 256 - m.page)) p)
          (Some (record {
            segment = shown.0;
            offset = 256 * (m.first + (address / 256 - m.page)) + address % 256;
            rights = shown.1;
          })) None)
          (same_pages s n shown.0 (observed_same l s n t shown.0 w (shown_observed s t k shown is)))
    ] refl

-- among slots of an address space that is the same in both
same_among : (s n : State) (t address i : ℕ) (ms : List (Option Mapping))
    → ((m : Option Mapping) (j : ℕ)
    → place_by n address m (translate n t j) ≡ place_by s address m (translate s t j))
    → place_among n t address i ms ≡ place_among s t address i ms
same_among s n t address i [] h = refl
same_among s n t address i (m ∷ ms) h =
    (λ k. cond (covers (address / 256) m) (h m i k) (same_among s n t address (i + 1) ms h k))

-- where no slot shows anything an address lies nowhere
nowhere_by : (s : State) (address : ℕ) (m : Option Mapping) → place_by s address m None ≡ None
nowhere_by s address None = refl
nowhere_by s address (Some m) = refl

either : (b : Bool) (v : Option Place) → cond b v v ≡ v
either true v = refl
either false v = refl

nowhere : (s : State) (t address i : ℕ) (ms : List (Option Mapping)) → ((j : ℕ) → translate s t j ≡ None)
    → place_among s t address i ms ≡ None
nowhere s t address i [] h = refl
nowhere s t address i (m ∷ ms) h =
    (λ k. cond (covers (address / 256) m)
    ((ap (place_by s address m) (h i) ∙ nowhere_by s address m) k) (nowhere s t address (i + 1) ms h k))
    ∙ either (covers (address / 256) m) None

same_space : (l : LabelValue) (s n : State) (t : ℕ) → Worlds l s n t → own_space n t ≡ own_space s t
same_space l s n t w =
    ap (λ v. option_map (λ r. r.space) (option_and_then (λ x. thread_of x.body) v)) (caller_same l s n t w)

translated : (s : State) (t : ℕ) (e : Entry) (j : ℕ) → own_space s t ≡ Some e
    → translate s t j ≡ cond (not (names_none e) && opens s t e) (through s t (slot_at s e.object j)) None
unfolding translate
translated s t e j own = ap (through_space s t j) own

pub same_place : (l : LabelValue) (s n : State) (t address : ℕ) → Worlds l s n t
    → place_of n t address ≡ place_of s t address
unfolding place_of
same_place l s n t address w =
    elim (own_space s t)
    as (λ v. own_space s t ≡ v
    → place_among n t address 0 (slots_through n (own_space n t)) ≡ place_among s t address 0 (slots_through s v)) [
      | None ↦ λ is.
          ap (λ v. place_among n t address 0 (slots_through n v)) (same_space l s n t w ∙ is)
      | Some e ↦ λ is.
          let too : own_space n t ≡ Some e = same_space l s n t w ∙ is in
          ap (λ v. place_among n t address 0 (slots_through n v)) too ∙
          elim (not (names_none e) && opens s t e)
          as (λ b. (not (names_none e) && opens s t e) ≡ b
          → place_among n t address 0 (slots_at n e.object) ≡ place_among s t address 0 (slots_at s e.object)) [
            | true ↦ λ on.
                let seen = (opens_parts s t e (and_parts (not (names_none e)) (opens s t e) on).1).2 in
                let same : object_at n e.object ≡ object_at s e.object = observed_same l s n t e.object w seen in
                let slots : slots_at n e.object ≡ slots_at s e.object =
                ap (of_object [] (λ x. slots_of x.body)) same in
                let on_too : (not (names_none e) && opens n t e) ≡ true =
                ap (λ b. not (names_none e) && b) (same_opens l s n t e w) ∙ on in
                ap (place_among n t address 0) slots
                ∙ same_among s n t address 0 (slots_at s e.object) (λ m j.
                ap (place_by n address m) (translated n t e j too
                ∙ ap (λ b. cond b (through n t (slot_at n e.object j)) None) on_too
                ∙ same_through l s n t (slot_at n e.object j) w
                ∙ ap (λ ms. through s t (slot_in (slice_get ms j))) slots)
                ∙ same_by l s n t address m (slot_at s e.object j) w
                ∙ ap (place_by s address m) (sym (translated s t e j is
                ∙ ap (λ b. cond b (through s t (slot_at s e.object j)) None) on)))
            | false ↦ λ off.
                let off_too : (not (names_none e) && opens n t e) ≡ false =
                ap (λ b. not (names_none e) && b) (same_opens l s n t e w) ∙ off in
                nowhere n t address 0 (slots_at n e.object) (λ j. translated n t e j too
                ∙ ap (λ b. cond b (through n t (slot_at n e.object j)) None) off_too)
                ∙ sym (nowhere s t address 0 (slots_at s e.object) (λ j. translated s t e j is
                ∙ ap (λ b. cond b (through s t (slot_at s e.object j)) None) off))
          ] refl
    ] refl

-- a place lies in a segment that is observed
by_observed : (s : State) (t address : ℕ) (m k : Option Mapping) (p : Place)
    → place_by s address m (through s t k) ≡ Some p → observes s t p.segment ≡ true
by_observed s t address None k p h = absurd (cc)
by_observed s t address (Some m) k p h =
    elim (through s t k)
    as (λ v. through s t k ≡ v → place_by s address (Some m) v ≡ Some p → observes s t p.segment ≡ true) [
      | None ↦ λ is g. absurd (cc)
      | Some shown ↦ λ is g.
          elim (nat_lt (m.first + (address / 256 - m.page)) (page_count s shown.0))
          as (λ b. cond b (Some (placed address m shown)) None ≡ Some p → observes s t p.segment ≡ true) [
            | true ↦ λ e.
                let same : placed address m shown ≡ p = cc in
                subst (λ (q : Place). observes s t q.segment ≡ true) same (shown_observed s t k shown is)
            | false ↦ λ e. absurd (cc)
          ] g
    ] refl h

slot_observed : (s : State) (t address j : ℕ) (e : Entry) (m : Option Mapping) (p : Place) → own_space s t ≡ Some e
    → place_by s address m (translate s t j) ≡ Some p → observes s t p.segment ≡ true
slot_observed s t address j e m p own h =
    elim (not (names_none e) && opens s t e)
    as (λ b. (not (names_none e) && opens s t e) ≡ b → observes s t p.segment ≡ true) [
      | true ↦ λ on.
          by_observed s t address m (slot_at s e.object j) p
          (sym (ap (place_by s address m) (translated s t e j own
          ∙ ap (λ b. cond b (through s t (slot_at s e.object j)) None) on)) ∙ h)
      | false ↦ λ off.
          let none : None ≡ Some p =
          sym (nowhere_by s address m) ∙ sym (ap (place_by s address m) (translated s t e j own
          ∙ ap (λ b. cond b (through s t (slot_at s e.object j)) None) off)) ∙ h in
          absurd (cc)
    ] refl

among_observed : (s : State) (t address i : ℕ) (e : Entry) (ms : List (Option Mapping)) (p : Place)
    → own_space s t ≡ Some e → place_among s t address i ms ≡ Some p → observes s t p.segment ≡ true
among_observed s t address i e [] p own h = absurd (cc)
among_observed s t address i e (m ∷ ms) p own h =
    elim (covers (address / 256) m)
    as (λ b. cond b (place_by s address m (translate s t i)) (place_among s t address (i + 1) ms) ≡ Some p
    → observes s t p.segment ≡ true) [
      | true ↦ λ g. slot_observed s t address i e m p own g
      | false ↦ λ g. among_observed s t address (i + 1) e ms p own g
    ] h

pub place_observed : (s : State) (t address : ℕ) (p : Place) → place_of s t address ≡ Some p
    → observes s t p.segment ≡ true
unfolding place_of
place_observed s t address p h =
    elim (own_space s t)
    as (λ v. own_space s t ≡ v → place_among s t address 0 (slots_through s v) ≡ Some p
    → observes s t p.segment ≡ true) [
      | None ↦ λ is g. absurd (cc)
      | Some e ↦ λ is g. among_observed s t address 0 e (slots_at s e.object) p is g
    ] refl h
