-- An object whose quota becomes fixed.
use Rattle.std.proofs.Common.{◌≡◌, ℕ, true, refl}
use Rattle.kernel_rules.specs.Changes.{changed, made_fixed}
use Rattle.kernel_rules.specs.State.{State}
use Rattle.kernel_rules.specs.WellFormed.{is_well_formed}
use Rattle.kernel_rules.specs.declared.objects.Object.{Object}
use Rattle.kernel_rules.proofs.KeptLaws.{KeepsPlace, changed_sound}
use Rattle.kernel_rules.proofs.WellFormedLaws.{soundness_of, well_formed_from}

pub fixed_keeps : (x : Object) → KeepsPlace x (made_fixed x)
fixed_keeps x = record { list = refl; kind = refl; quota = refl; cost = refl; fixed = λ f. refl; whole = λ w. w }

pub fixed_well_formed : (s : State) (o : ℕ) → is_well_formed s ≡ true
    → is_well_formed (changed s o made_fixed) ≡ true
fixed_well_formed s o h =
    well_formed_from (changed s o made_fixed)
    (changed_sound s o made_fixed (λ x found. fixed_keeps x) (soundness_of s h))
