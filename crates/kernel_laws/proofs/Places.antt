-- Where writing is allowed, the segment is not immutable.
use Rattle.std.proofs.Common.{◌≡◌, ℕ, ◌+◌, ◌*◌, ◌%◌, ◌/◌, Bool, true, false, cond, not, ◌&&◌, nat_lt}
use Rattle.std.proofs.Common.{List, [], ◌∷◌, Option, Some, None, refl, subst}
use Rattle.std.proofs.lemmas.Bool.{and_parts, both_ways}
use Rattle.base.specs.Sets.{may_write, reading}
use Rattle.base.specs.declared.sets.Rights.{Rights}
use Rattle.kernel_rules.specs.State.{State, is_immutable, flows_to, page_count}
use Rattle.kernel_rules.specs.Conditions.{allows}
use Rattle.kernel_rules.specs.Translate.{place_at, place_by, place_among, place_of, slots_through}
use Rattle.kernel_rules.specs.Translate.{own_space, translate, through, through_space, usable, opens}
use Rattle.kernel_rules.specs.Translate.{covers, slot_at, names_none}
use Rattle.kernel_rules.specs.declared.calls.Entry.{Entry}
use Rattle.kernel_rules.specs.declared.objects.Mapping.{Mapping}
use Rattle.kernel_rules.specs.declared.places.Place.{Place}

-- rights without writing do not allow it
reading_only : (r : Rights) → may_write (reading r) ≡ false
reading_only r = refl

usable_open : (s : State) (t o : ℕ) (r : Rights) → may_write (usable s t o r) ≡ true
    → is_immutable s o ≡ false
usable_open s t o r =
    elim (flows_to s t o && not (is_immutable s o))
    as (λ v. (flows_to s t o && not (is_immutable s o)) ≡ v → may_write (cond v r (reading r)) ≡ true
    → is_immutable s o ≡ false) [
      | true ↦ λ is h. true-not (is_immutable s o) (and_parts (flows_to s t o) (not (is_immutable s o)) is).1
      | false ↦ λ is h. absurd (both_ways (may_write (reading r)) (reading_only r) h)
    ] refl
  where
    true-not : (b : Bool) → not b ≡ true → b ≡ false
    true-not true h = absurd (cc)
    true-not false h = refl

-- what is shown may be written only where it is not immutable
abbrev IsOpen : State → ℕ × Rights → Type 0
IsOpen s shown = may_write shown.1 ≡ true → is_immutable s shown.0 ≡ false

through_open : (s : State) (t : ℕ) (m : Option Mapping) (shown : ℕ × Rights) → through s t m ≡ Some shown
    → IsOpen s shown
through_open s t None shown h = absurd (cc)
through_open s t (Some m) shown h =
    elim (opens s t m.entry)
    as (λ v. cond v (Some (m.entry.object, usable s t m.entry.object m.rights)) None ≡ Some shown
    → IsOpen s shown) [
      | true ↦ λ is.
          let same : (m.entry.object, usable s t m.entry.object m.rights) ≡ shown = cc in
          subst (λ (p : ℕ × Rights). IsOpen s p) same (usable_open s t m.entry.object m.rights)
      | false ↦ λ is. absurd (cc)
    ] h

space_open : (s : State) (t i : ℕ) (e : Option Entry) (shown : ℕ × Rights)
    → through_space s t i e ≡ Some shown → IsOpen s shown
space_open s t i None shown h = absurd (cc)
space_open s t i (Some e) shown h =
    elim (not (names_none e) && opens s t e)
    as (λ v. cond v (through s t (slot_at s e.object i)) None ≡ Some shown → IsOpen s shown) [
      | true ↦ λ is. through_open s t (slot_at s e.object i) shown is
      | false ↦ λ is. absurd (cc)
    ] h

translated_open : (s : State) (t i : ℕ) (shown : ℕ × Rights) → translate s t i ≡ Some shown → IsOpen s shown
unfolding translate
translated_open s t i shown h = space_open s t i (own_space s t) shown h

place_open : (s : State) (address n : ℕ) (shown : ℕ × Rights) (p : Place) → IsOpen s shown
    → place_at s address n shown ≡ Some p → IsOpen s (p.segment, p.rights)
place_open s address n shown p free h =
    elim (nat_lt n (page_count s shown.0))
    as (λ v. cond v (Some (record { segment = shown.0; offset = 256 * n + address % 256; rights = shown.1 })) None
    ≡ Some p → IsOpen s (p.segment, p.rights)) [
      | true ↦ λ is.
          let same : (record { segment = shown.0; offset = 256 * n + address % 256; rights = shown.1 }) ≡ p = cc
          in
          subst (λ (q : Place). IsOpen s (q.segment, q.rights)) same free
      | false ↦ λ is. absurd (cc)
    ] h

by_open : (s : State) (t i address : ℕ) (m : Option Mapping) (p : Place)
    → place_by s address m (translate s t i) ≡ Some p → IsOpen s (p.segment, p.rights)
by_open s t i address None p h = absurd (cc)
by_open s t i address (Some m) p h =
    elim (translate s t i)
    as (λ v. translate s t i ≡ v → place_by s address (Some m) v ≡ Some p → IsOpen s (p.segment, p.rights)) [
      | None ↦ λ is g. absurd (cc)
      | Some shown ↦ λ is g. place_open s address _ shown p (translated_open s t i shown is) g
    ] refl h

among_open : (s : State) (t address i : ℕ) (ms : List (Option Mapping)) (p : Place)
    → place_among s t address i ms ≡ Some p → IsOpen s (p.segment, p.rights)
among_open s t address i [] p h = absurd (cc)
among_open s t address i (m ∷ ms) p h =
    elim (covers (address / 256) m)
    as (λ v. cond v (place_by s address m (translate s t i)) (place_among s t address (i + 1) ms) ≡ Some p
    → IsOpen s (p.segment, p.rights)) [
      | true ↦ λ is. by_open s t i address m p is
      | false ↦ λ is. among_open s t address (i + 1) ms p is
    ] h

pub written_open : (s : State) (t address : ℕ) (p : Place) → place_of s t address ≡ Some p
    → allows may_write (place_of s t address) ≡ true → is_immutable s p.segment ≡ false
unfolding place_of
written_open s t address p h allowed =
    among_open s t address 0 (slots_through s (own_space s t)) p h
    (subst (λ v. allows may_write v ≡ true) h allowed)
