-- An object is what looks at it answer.
use Rattle.std.proofs.Common.{◌≡◌, ℕ, true, false, Bool, ◌==◌, [], Option, Some, None, is_some, refl, ap, ◌∙◌}
use Rattle.std.specs.Option.{option_map, option_and_then}
use Rattle.base.specs.declared.kinds.Kind as kind
use Rattle.base.specs.declared.kinds.Kind.TheVariants as kinds
use Rattle.kernel_rules.specs.State.{State, object_at, of_object, is_kind, is_live_kind, kind_number, kind_of}
use Rattle.kernel_rules.specs.State.{thread_at, gate_at, packets_at}
use Rattle.kernel_rules.specs.State.{thread_of, gate_of, packets_of}
use Rattle.kernel_rules.specs.WellFormed.{is_well_formed}
use Rattle.kernel_rules.specs.declared.objects.Body as body
use Rattle.kernel_rules.specs.declared.objects.Body.TheVariants as is
use Rattle.kernel_rules.specs.declared.objects.Gate.{Gate}
use Rattle.kernel_rules.specs.declared.objects.Object.{Object}
use Rattle.kernel_rules.specs.declared.objects.Thread.{Thread}
use Rattle.kernel_rules.proofs.WellFormedLaws.{live_kind}
use Rattle.plain_core.specs.Bodies.{body_at}

-- whether a body is of this kind
abbrev is_of : kind.Kind → body.Body → Bool
is_of k b = kind_number (kind_of b) == kind_number k

is_device : (b : body.Body) → thread_of b ≡ None → gate_of b ≡ None → is_of kinds.Container b ≡ false
    → is_of kinds.Segment b ≡ false → is_of kinds.AddressSpace b ≡ false → b ≡ is.Device (packets_of b)
is_device (is.Device packets) t g c s a = refl
is_device (is.Container avoid list) t g c s a = absurd (cc)
is_device (is.Segment bytes) t g c s a = absurd (cc)
is_device (is.AddressSpace slots) t g c s a = absurd (cc)
is_device (is.Thread u) t g c s a = absurd (cc)
is_device (is.Gate u) t g c s a = absurd (cc)

-- what is there, and of none of the other kinds
pub device_body : (s : State) (o : ℕ) → is_well_formed s ≡ true → is_some (object_at s o) ≡ true
    → thread_at s o ≡ None → gate_at s o ≡ None → is_live_kind s kinds.Container o ≡ false
    → is_live_kind s kinds.Segment o ≡ false → is_live_kind s kinds.AddressSpace o ≡ false
    → body_at s o ≡ Some (is.Device (packets_at s o))
device_body s o wf there t g c m a =
    from (object_at s o) there t g (live_kind s kinds.Container o wf ∙ c) (live_kind s kinds.Segment o wf ∙ m)
    (live_kind s kinds.AddressSpace o wf ∙ a)
  where
    from : (v : Option Object) → is_some v ≡ true → option_and_then (λ x. thread_of x.body) v ≡ None
        → option_and_then (λ x. gate_of x.body) v ≡ None → of_object false (is_kind kinds.Container) v ≡ false
        → of_object false (is_kind kinds.Segment) v ≡ false → of_object false (is_kind kinds.AddressSpace) v ≡ false
        → option_map (λ x. x.body) v ≡ Some (is.Device (of_object [] (λ x. packets_of x.body) v))
    from None there t g c m a = absurd (cc)
    from (Some x) there t g c m a = ap Some (is_device x.body t g c m a)
