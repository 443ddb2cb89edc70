-- What is true of all containers.
use Rattle.std.specs.Prelude.{◌≡◌, ℕ, ◌<◌, true, length, slice_index, IsSome}
use Rattle.containers.specs.Objects.{Rises, Apart}
use Rattle.base.specs.Live.{has, links}
use Rattle.containers.specs.Tree.{Tree, ids_in, list_of, record_at}

-- ids rise, each has a slot of its own with a record, each that is listed is there, none lists the
-- root, and none lists an id twice
pub record IsWellFormed {T : Type 0} (t : Tree T) : Type 0 where
  pub beside : length (ids_in t.lists) ≡ length t.slots
  pub rises : Rises (ids_in t.lists)
  pub apart : Apart t.slots
  pub within : (k : ℕ) → k < length t.slots → slice_index t.slots k < length t.cells
  pub there : (k : ℕ) → k < length t.slots → IsSome (record_at t (slice_index t.slots k))
  pub listed : (a b : ℕ) → links t.lists a b ≡ true → has (ids_in t.lists) b ≡ true
  pub root_free : (a : ℕ) → links t.lists a 1 ≡ true → ⊥
  pub once : (a : ℕ) → Apart (list_of t.lists a)
