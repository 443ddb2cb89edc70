-- How an arena keeps its slots. No public clause cites this module.
use Rattle.std.specs.Prelude.{◌≡◌, ℕ, ◌+◌, ◌<◌, List, length, slice_index, slice_index_or}
use Rattle.std.specs.Prelude.{Option, None, IsSome}
use Rattle.containers.specs.Objects.{Rises, Apart}

-- each slot is in the directory and has an object, or is spare and has none
pub record IsKept {T : Type 0} (ids slots spare : List ℕ) (cells : List (Option T)) : Type 0 where
  pub beside : length ids ≡ length slots
  pub total : length slots + length spare ≡ length cells
  pub rising : Rises ids
  pub used : (k : ℕ) → k < length slots
      → (slice_index slots k < length cells)
      × IsSome (slice_index_or cells (slice_index slots k) None)
  pub unused : (k : ℕ) → k < length spare
      → (slice_index spare k < length cells)
      × (slice_index_or cells (slice_index spare k) None ≡ None)
  pub slots_apart : Apart slots
  pub spare_apart : Apart spare
