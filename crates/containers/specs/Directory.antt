-- The directory of ids names the recorded slots.
use Rattle.std.specs.Prelude.{◌≡◌, ℕ, ◌<◌, List, length, slice_index}
use Rattle.containers.specs.Objects.{Rises}
use Rattle.containers.specs.Lists.{Lists}
use Rattle.containers.specs.Cells.{IsRecorded}

-- at each place an id and its slot, and each recorded slot has a place
pub record IsDirectory (size root : ℕ) (r : List Lists) (names ids slots : List ℕ) : Type 0 where
  pub beside : length ids ≡ length slots
  pub rises : Rises ids
  pub recorded : (k : ℕ) → k < length ids → IsRecorded size root r (slice_index slots k)
  pub name : (k : ℕ) → k < length ids → slice_index names (slice_index slots k) ≡ slice_index ids k
  pub place : (o : ℕ) → IsRecorded size root r o
      → (k : ℕ) × (k < length ids) × (slice_index slots k ≡ o)

-- the same, but that some slots of the directory may not be recorded
pub record IsListing (size root : ℕ) (r : List Lists) (names ids slots : List ℕ) : Type 0 where
  pub beside : length ids ≡ length slots
  pub rises : Rises ids
  pub within : (k : ℕ) → k < length ids → slice_index slots k < size
  pub name : (k : ℕ) → k < length ids → slice_index names (slice_index slots k) ≡ slice_index ids k
  pub place : (o : ℕ) → IsRecorded size root r o
      → (k : ℕ) × (k < length ids) × (slice_index slots k ≡ o)
