-- What a row of translation reads.
use Rattle.std.proofs.Common.{◌≡◌, ℕ, Bool, true, false, cond, not, ◌&&◌, Option, Some, None, refl}
use Rattle.std.proofs.Common.{◌∙◌, ap, inl, inr}
use Rattle.std.specs.Option.{option_map}
use Rattle.label_lattice.specs.LabelRules.{both, below, visible}
use Rattle.kernel_rules.specs.State.{State, label_at, is_immutable}
use Rattle.kernel_rules.specs.Translate.{names_none, slot_at, own_space, opens, usable, through}
use Rattle.kernel_rules.specs.Translate.{through_space, translate}
use Rattle.kernel_rules.specs.declared.calls.Entry.{Entry}
use Rattle.kernel_rules.specs.declared.objects.Mapping.{Mapping}
use Rattle.base.specs.Sets.{reading}
use Rattle.kernel_laws.specs.Through.{Through, SameEntry, slot_by, mapping_of, mapped_entry}

-- a choice whose test is the same, and its first value where the test holds
pub cond_same : {X : Type 0} (a b : Bool) (u v w : X) → a ≡ b → (b ≡ true → u ≡ v) → cond a u w ≡ cond b v w
cond_same a true u v w h g = ap (λ c. cond c u w) h ∙ g refl
cond_same a false u v w h g = ap (λ c. cond c u w) h

pub and_same : (a b c d : Bool) → a ≡ b → (b ≡ true → c ≡ d) → (a && c) ≡ (b && d)
and_same a true c d h g = ap (λ v. v && c) h ∙ g refl
and_same a false c d h g = ap (λ v. v && c) h

-- a mapping shows the same
through_same : (s n : State) (t : ℕ) (v : Option Mapping)
    → ((m : Mapping) → v ≡ Some m → opens n t m.entry ≡ opens s t m.entry)
    → ((m : Mapping) → v ≡ Some m → opens s t m.entry ≡ true
    → usable n t m.entry.object m.rights ≡ usable s t m.entry.object m.rights)
    → through n t v ≡ through s t v
through_same s n t None opened uses = refl
through_same s n t (Some m) opened uses =
    cond_same (opens n t m.entry) (opens s t m.entry)
    (Some (m.entry.object, usable n t m.entry.object m.rights))
    (Some (m.entry.object, usable s t m.entry.object m.rights)) None (opened m refl)
    (λ is. ap (λ r. Some (m.entry.object, r)) (uses m refl is))

-- a slot of an address space shows the same
space_same : (s n : State) (t i : ℕ) (v : Option Entry)
    → ((e : Entry) → v ≡ Some e → opens n t e ≡ opens s t e)
    → ((e : Entry) → v ≡ Some e → opens s t e ≡ true
    → through n t (slot_at n e.object i) ≡ through s t (slot_at s e.object i))
    → through_space n t i v ≡ through_space s t i v
space_same s n t i None opened show = refl
space_same s n t i (Some e) opened show =
    cond_same (not (names_none e) && opens n t e) (not (names_none e) && opens s t e)
    (through n t (slot_at n e.object i)) (through s t (slot_at s e.object i)) None
    (ap (λ b. not (names_none e) && b) (opened e refl))
    (λ is. show e refl (second (not (names_none e)) (opens s t e) is))
  where
    second : (a b : Bool) → (a && b) ≡ true → b ≡ true
    second true b h = h
    second false b h = absurd (cc)

-- a row is the same where its entries opened as before, and show the same where they opened
pub row_same : (s n : State) (t i : ℕ) → own_space n t ≡ own_space s t
    → ((e : Entry) → own_space s t ≡ Some e → opens n t e ≡ opens s t e)
    → ((e : Entry) → own_space s t ≡ Some e → opens s t e ≡ true
    → slot_at n e.object i ≡ slot_at s e.object i)
    → ((m : Mapping) → mapping_of s t i ≡ Some m → opens n t m.entry ≡ opens s t m.entry)
    → ((m : Mapping) → mapping_of s t i ≡ Some m → opens s t m.entry ≡ true
    → usable n t m.entry.object m.rights ≡ usable s t m.entry.object m.rights)
    → translate n t i ≡ translate s t i
unfolding translate
row_same s n t i own opened slot map_open map_use =
    ap (through_space n t i) own
    ∙ space_same s n t i (own_space s t) opened
    (λ e is opened.
    ap (through n t) (slot e is opened)
    ∙ through_same s n t (slot_at s e.object i) (λ m there. map_open m (ap (slot_by s i) is ∙ there))
    (λ m there. map_use m (ap (slot_by s i) is ∙ there)))

-- an entry opens as before
pub opens_same : (s n : State) (t : ℕ) (e : Entry) → label_at n t ≡ label_at s t → SameEntry s n e
    → opens n t e ≡ opens s t e
opens_same s n t e own same =
    λ i. same.live i && both visible (same.container i) (own i) && same.listed i
    && both visible (same.object i) (own i)

pub usable_same : (s n : State) (t : ℕ) (m : Mapping) → label_at n t ≡ label_at s t
    → label_at n m.entry.object ≡ label_at s m.entry.object
    → is_immutable n m.entry.object ≡ is_immutable s m.entry.object
    → usable n t m.entry.object m.rights ≡ usable s t m.entry.object m.rights
usable_same s n t m own object immutable =
    λ i. cond (both below (own i) (object i) && not (immutable i)) m.rights (reading m.rights)

pub row_reads_lem : (s n : State) (t i : ℕ) → own_space n t ≡ own_space s t → label_at n t ≡ label_at s t
    → ((e : Entry) → Through s t i e → SameEntry s n e)
    → ((e : Entry) → own_space s t ≡ Some e → slot_at n e.object i ≡ slot_at s e.object i)
    → ((e : Entry) → mapped_entry s t i ≡ Some e → is_immutable n e.object ≡ is_immutable s e.object)
    → translate n t i ≡ translate s t i
row_reads_lem s n t i own label same slot immutable =
    row_same s n t i own
    (λ e is. opens_same s n t e label (same e (inl is)))
    (λ e is opened. slot e is)
    (λ m is. opens_same s n t m.entry label (same m.entry (inr (entry m is))))
    (λ m is opened. usable_same s n t m label (same m.entry (inr (entry m is))).object
    (immutable m.entry (entry m is)))
  where
    entry : (m : Mapping) → mapping_of s t i ≡ Some m → mapped_entry s t i ≡ Some m.entry
    entry m is = ap (option_map (λ m. m.entry)) is
