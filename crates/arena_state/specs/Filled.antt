-- What a slot holds of its object beside the record, and objects with what their slots hold.
use Rattle.std.specs.Prelude.{ℕ, List, map, Option}
use Rattle.kernel_rules.specs.State.{State}
use Rattle.kernel_rules.specs.declared.objects.Mapping.{Mapping}
use Rattle.kernel_rules.specs.declared.objects.Object.{Object}
use Rattle.kernel_rules.specs.declared.objects.Body as body
use Rattle.kernel_rules.specs.declared.objects.Body.TheVariants as is

-- a segment's bytes, the slots of an address space, a device's packets
pub record Content : Type 0 where
  pub bytes : List ℕ
  pub slots : List (Option Mapping)
  pub packets : List (List ℕ)

-- a body with what its slot holds
abbrev pub filled_body : Content → body.Body → body.Body
filled_body c (is.Container avoid list) = is.Container avoid list
filled_body c (is.Segment bytes) = is.Segment c.bytes
filled_body c (is.AddressSpace slots) = is.AddressSpace (record { slots = c.slots })
filled_body c (is.Thread t) = is.Thread t
filled_body c (is.Gate g) = is.Gate g
filled_body c (is.Device packets) = is.Device c.packets

-- an object with what its slot holds
abbrev pub filled : Content → Object → Object
filled c x = record x { body = filled_body c x.body }

-- objects with what the slots of their ids hold
abbrev pub filled_in : (ℕ → Content) → List (ℕ × Object) → List (ℕ × Object)
filled_in contents objects = map (λ e. (e.0, filled (contents e.0) e.1)) objects

-- the state with what the slots of ids hold
abbrev pub filled_state : (ℕ → Content) → State → State
filled_state contents s = record s { objects = filled_in contents s.objects }
