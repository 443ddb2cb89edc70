-- How objects that go together leave an arena. No public clause cites this module.
use Rattle.std.specs.Prelude.{◌≡◌, ◌≢◌, ℕ, ◌+◌, ◌<◌, ◌≤◌, ◌⊎◌, List, length, slice_index}
use Rattle.std.specs.Prelude.{slice_index_or, Option, None, IsSome}
use Rattle.containers.specs.Objects.{Rises, Apart}

-- the place of the directory has one of the first so many ids that go
pub record Goes (ids gone : List ℕ) (count place : ℕ) : Type 0 where
  pub at : ℕ
  pub among : at < count
  pub within : place < length ids
  pub id_is : slice_index gone at ≡ slice_index ids place

-- the slots of these places are empty, the others as they were, and no such place is before the
-- first
pub record IsVacated {T : Type 0} (ids slots gone : List ℕ) (count : ℕ)
    (old new : List (Option T)) (first : ℕ) : Type 0 where
  pub pool : length new ≡ length old
  pub in_range : first ≤ length ids
  pub before : (place : ℕ) → Goes ids gone count place → first ≤ place
  pub empty : (place : ℕ) → Goes ids gone count place
      → slice_index_or new (slice_index slots place) None ≡ None
  pub same : (slot : ℕ) → ((place : ℕ) → Goes ids gone count place → slice_index slots place ≢ slot)
      → slice_index_or new slot None ≡ slice_index_or old slot None

-- a directory whose slots are those of objects or empty, and spare slots beside them
pub record HasGaps {T : Type 0} (ids slots spare : List ℕ) (cells : List (Option T)) : Type 0 where
  pub beside : length ids ≡ length slots
  pub total : length slots + length spare ≡ length cells
  pub rising : Rises ids
  pub used : (k : ℕ) → k < length slots → slice_index slots k < length cells
  pub unused : (k : ℕ) → k < length spare
      → (slice_index spare k < length cells)
      × (slice_index_or cells (slice_index spare k) None ≡ None)
  pub slots_apart : Apart slots
  pub spare_apart : Apart spare
  pub parted : (j k : ℕ) → j < length slots → k < length spare
      → slice_index slots j ≢ slice_index spare k

-- where a place of a directory was in an older one, in which its slot has an object
pub record CameFrom {T : Type 0} (ids slots ids' slots' : List ℕ) (cells : List (Option T))
    (place at : ℕ) : Type 0 where
  pub later : place ≤ at
  pub id_is : slice_index ids' place ≡ slice_index ids at
  pub slot_is : slice_index slots' place ≡ slice_index slots at
  pub there : IsSome (slice_index_or cells (slice_index slots at) None)

-- the first so many places are closed up, and were the first so many before
pub record IsClosing {T : Type 0} (ids slots spare ids' slots' spare' : List ℕ)
    (cells : List (Option T)) (end place : ℕ) : Type 0 where
  pub ids_len : length ids' ≡ length ids
  pub slots_len : length slots' ≡ length slots
  pub ordered : end ≤ place
  pub in_range : place ≤ length ids
  pub ahead : (k : ℕ) → place ≤ k
      → (slice_index ids' k ≡ slice_index ids k) × (slice_index slots' k ≡ slice_index slots k)
  pub were : (k : ℕ) → k < end
      → (at : ℕ) × (at < place) × CameFrom ids slots ids' slots' cells k at
  pub stays : (at : ℕ) → at < place → IsSome (slice_index_or cells (slice_index slots at) None)
      → (k : ℕ) × (k < end) × CameFrom ids slots ids' slots' cells k at
  pub rises : (i j : ℕ) → i < j → j < end → slice_index ids' i < slice_index ids' j
  pub apart : (i j : ℕ) → i < j → j < end → slice_index slots' i ≢ slice_index slots' j
  pub count : length spare' + end ≡ length spare + place
  pub spares : (k : ℕ) → k < length spare'
      → ((k < length spare) × (slice_index spare' k ≡ slice_index spare k))
      ⊎ ((at : ℕ) × (at < place) × (slice_index spare' k ≡ slice_index slots at)
      × (slice_index_or cells (slice_index slots at) None ≡ None))
  pub spare_apart : Apart spare'

-- the directory has just the places whose slot has an object, in their order, and the other slots
-- are spare
pub record IsClosed {T : Type 0} (ids slots ids' slots' : List ℕ) (cells : List (Option T))
    : Type 0 where
  pub were : (k : ℕ) → k < length ids'
      → (at : ℕ) × (at < length ids) × CameFrom ids slots ids' slots' cells k at
  pub stays : (at : ℕ) → at < length ids
      → IsSome (slice_index_or cells (slice_index slots at) None)
      → (k : ℕ) × (k < length ids') × CameFrom ids slots ids' slots' cells k at
