-- What a row shows.
use Rattle.std.proofs.Common.{◌≡◌, ℕ, true, false, cond, not, ◌&&◌, Option, Some, None, refl}
use Rattle.std.proofs.Common.{ap, subst}
use Rattle.std.specs.Option.{option_map}
use Rattle.std.proofs.lemmas.Bool.{and_parts, both_ways}
use Rattle.base.specs.Live.{has}
use Rattle.base.specs.declared.kinds.Kind.TheVariants as kinds
use Rattle.base.specs.declared.sets.Rights.{Rights}
use Rattle.label_lattice.specs.Label.{LabelValue}
use Rattle.label_lattice.specs.LabelRules.{both, visible}
use Rattle.kernel_rules.specs.State.{State, object_at, of_object, is_kind, is_kind_at, list_at, observes}
use Rattle.kernel_rules.specs.State.{is_accessible, label_at}
use Rattle.kernel_rules.specs.Translate.{translate, own_space, names_none, opens, slot_at, through}
use Rattle.kernel_rules.specs.Translate.{through_space, usable}
use Rattle.kernel_rules.specs.declared.calls.Entry.{Entry}
use Rattle.kernel_rules.specs.declared.objects.Mapping.{Mapping}
use Rattle.kernel_rules.specs.declared.objects.Object.{Object}
use Rattle.kernel_laws.specs.Names.{NamesKind, IsNamedRightly}
use Rattle.kernel_laws.specs.Through.{slot_by, mapped_entry}
use Rattle.kernel_laws.proofs.Named.{mapped_names}

-- a shown segment is that of the slot's mapping, whose entry opens
abbrev pub IsShownBy : State → ℕ → ℕ × Rights → Option Mapping → Type 0
IsShownBy s t shown v =
    (e : Entry) × (option_map (λ m. m.entry) v ≡ Some e) × (e.object ≡ shown.0) × (opens s t e ≡ true)

by_mapping : (s : State) (t : ℕ) (shown : ℕ × Rights) (v : Option Mapping) → through s t v ≡ Some shown
    → IsShownBy s t shown v
by_mapping s t shown None h = absurd (cc)
by_mapping s t shown (Some m) h =
    elim (opens s t m.entry)
    as (λ v. opens s t m.entry ≡ v
    → cond v (Some (m.entry.object, usable s t m.entry.object m.rights)) None ≡ Some shown
    → IsShownBy s t shown (Some m)) [
      | true ↦ λ open_is g.
          let same : (m.entry.object, usable s t m.entry.object m.rights) ≡ shown = cc in
          (m.entry, refl, ap (λ (p : ℕ × Rights). p.0) same, open_is)
      | false ↦ λ shut g. absurd (cc)
    ] refl h

by_space : (s : State) (t i : ℕ) (shown : ℕ × Rights) (v : Option Entry) → through_space s t i v ≡ Some shown
    → IsShownBy s t shown (slot_by s i v)
by_space s t i shown None h = absurd (cc)
by_space s t i shown (Some e) h =
    elim (not (names_none e) && opens s t e)
    as (λ v. cond v (through s t (slot_at s e.object i)) None ≡ Some shown
    → IsShownBy s t shown (slot_at s e.object i)) [
      | true ↦ λ g. by_mapping s t shown (slot_at s e.object i) g
      | false ↦ λ g. absurd (cc)
    ] h

shown_by : (s : State) (t i : ℕ) (shown : ℕ × Rights) → translate s t i ≡ Some shown
    → IsShownBy s t shown (slot_by s i (own_space s t))
unfolding translate
shown_by s t i shown h = by_space s t i shown (own_space s t) h

pub shown_lem : (s : State) (t i : ℕ) (shown : ℕ × Rights) → translate s t i ≡ Some shown
    → (e : Entry) × (mapped_entry s t i ≡ Some e) × (e.object ≡ shown.0)
shown_lem s t i shown h =
    let by : IsShownBy s t shown (slot_by s i (own_space s t)) = shown_by s t i shown h in
    (by.0, by.1, by.2)

pub segment_lem : (s : State) (t i : ℕ) (shown : ℕ × Rights) → IsNamedRightly s
    → translate s t i ≡ Some shown → is_kind_at s kinds.Segment shown.0 ≡ true
segment_lem s t i shown names h =
    let by : IsShownBy s t shown (slot_by s i (own_space s t)) = shown_by s t i shown h in
    let named : NamesKind s kinds.Segment by.0 = mapped_names s t i by.0 names by.1 in
    let seen : observes s t by.0.object ≡ true =
    (and_parts (is_accessible s t by.0.container && has (list_at s by.0.container) by.0.object)
    (observes s t by.0.object) by.3).1 in
    subst (λ o. is_kind_at s kinds.Segment o ≡ true) by.2
    (recorded (object_at s by.0.object) (label_at s t) seen named.kind)
  where
    recorded : (v : Option Object) (l : Option LabelValue) → both visible (option_map (λ x. x.label) v) l ≡ true
        → of_object true (is_kind kinds.Segment) v ≡ true → of_object false (is_kind kinds.Segment) v ≡ true
    recorded None l h k = absurd (both_ways false refl h)
    recorded (Some x) l h k = k
