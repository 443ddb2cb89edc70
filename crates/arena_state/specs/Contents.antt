-- Which records have contents beside them, and the bytes of a slot.
use Rattle.std.specs.Prelude.{ℕ, Bool, true, false, List, [], Option, Some, None}
use Rattle.base.specs.declared.ids.Slot.{Slot}
use Rattle.arena_memory.specs.Segments.{bytes_in}
use Rattle.arena_state.specs.declared.records.Kept as kept
use Rattle.arena_state.specs.declared.records.Kept.TheVariants as keeps

-- whether a body is a device's
abbrev pub keeps_device : kept.Kept → Bool
keeps_device keeps.Device = true
keeps_device (keeps.Container avoid used) = false
keeps_device (keeps.Segment pages) = false
keeps_device keeps.AddressSpace = false
keeps_device (keeps.Thread t) = false
keeps_device (keeps.Gate g) = false

-- the bytes of a slot that was found, and none where none was
abbrev pub bytes_found : List (List ℕ) → Option Slot → List ℕ
bytes_found segments None = []
bytes_found segments (Some slot) = bytes_in segments slot.0
