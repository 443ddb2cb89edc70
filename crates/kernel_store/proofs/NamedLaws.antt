-- What entries name where nothing refuses a call.
use Rattle.std.proofs.Common.{◌≡◌, ℕ, true, false, not, ◌&&◌, ◌||◌, refl}
use Rattle.std.proofs.lemmas.Bool.{and_parts, and_from, not-false}
use Rattle.base.specs.Live.{is_live}
use Rattle.base.specs.declared.kinds.Kind as kind
use Rattle.base.specs.declared.kinds.Kind.TheVariants as kinds
use Rattle.kernel_rules.specs.State.{State, lists_of, is_kind_at, is_live_kind, is_accessible, observes}
use Rattle.kernel_rules.specs.Translate.{names_none}
use Rattle.kernel_rules.specs.declared.calls.Entry.{Entry}
use Rattle.kernel_store.specs.Named.{names, names_space}

accessible_kind : (s : State) (t d : ℕ) → is_accessible s t d ≡ true → is_kind_at s kinds.Container d ≡ true
accessible_kind s t d h =
    (and_parts (is_kind_at s kinds.Container d) (is_live (lists_of s.objects) d)
    (and_parts (is_live_kind s kinds.Container d) (observes s t d) h).0).0

-- an entry that is accessible, with an object of this kind
pub names_from : (s : State) (t : ℕ) (k : kind.Kind) (e : Entry) → not (is_accessible s t e.container) ≡ false
    → not (is_kind_at s k e.object) ≡ false → names s k e ≡ true
names_from s t k e reached kind =
    and_from (is_kind_at s kinds.Container e.container) (is_kind_at s k e.object)
    (accessible_kind s t e.container (not-false _ reached)) (not-false _ kind)

-- and the entry of an address space
pub space_from : (s : State) (t : ℕ) (e : Entry) → (not (names_none e) && not (is_accessible s t e.container)) ≡ false
    → (not (names_none e) && not (is_kind_at s kinds.AddressSpace e.object)) ≡ false → names_space s e ≡ true
space_from s t e reached kind =
    elim (names_none e)
    as (λ v. (not v && not (is_accessible s t e.container)) ≡ false
    → (not v && not (is_kind_at s kinds.AddressSpace e.object)) ≡ false
    → (v || names s kinds.AddressSpace e) ≡ true) [
      | true ↦ λ a b. refl
      | false ↦ λ a b. names_from s t kinds.AddressSpace e a b
    ] reached kind
