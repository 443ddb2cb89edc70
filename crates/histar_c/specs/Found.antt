-- What is found in what a kernel keeps.
use Rattle.std.specs.Prelude.{◌≡◌, ℕ, Option, Some, None, option_map, slice_get}
use Rattle.base.specs.declared.sets.Rights.{Rights}
use Rattle.label_lattice.specs.Label.{LabelValue}
use Rattle.kernel_rules.specs.Scratch.{ids_of}
use Rattle.kernel_rules.specs.State.{object_at, use_of}
use Rattle.kernel_rules.specs.Translate.{translate}
use Rattle.syscall_core.specs.Kernel.{kernel_state, label_at, order_at}
use Rattle.syscall_core.specs.declared.kernel.Kernel.{Kernel}
use Rattle.call_records.specs.declared.lookups.Found.{Found}
use Rattle.call_records.specs.declared.lookups.Found.TheVariants as found
use Rattle.call_records.specs.declared.lookups.Lookup.{Lookup}
use Rattle.call_records.specs.declared.lookups.Lookup.TheVariants as lookups

-- a live id, or nothing
abbrev pub live_found : Option ℕ → Found
live_found (Some id) = found.Live id
live_found None = found.Nothing

-- a segment with the rights to it, or nothing
abbrev pub shown_found : Option (ℕ × Rights) → Found
shown_found (Some shown) = found.Shown shown.0 shown.1
shown_found None = found.Nothing

-- a label, or nothing
abbrev pub label_found : Option LabelValue → Found
label_found (Some label) = found.Label label
label_found None = found.Nothing

-- the bits of an order, or nothing
abbrev pub order_found : Option ℕ → Found
order_found (Some bits) = found.Order bits
order_found None = found.Nothing

-- what an object uses, or nothing
abbrev pub used_found : Option ℕ → Found
used_found (Some pages) = found.Used pages
used_found None = found.Nothing

-- the look-up found what the kernel keeps, which is what its state has
abbrev pub IsFound : Kernel → Lookup → Found → Type 0
IsFound k (lookups.Live place) f = f ≡ live_found (slice_get (ids_of (kernel_state k).objects) place)
IsFound k (lookups.Used id) f = f ≡ used_found (option_map (λ _. use_of (kernel_state k) id) (object_at (kernel_state k) id))
IsFound k (lookups.Shown thread slot) f = f ≡ shown_found (translate (kernel_state k) thread slot)
IsFound k (lookups.Label index) f = f ≡ label_found (label_at k index)
IsFound k (lookups.Order first second) f = f ≡ order_found (order_at k first second)
