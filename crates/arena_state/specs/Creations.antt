-- What pieces are once a new record has a slot, an id and a first link.
use Rattle.std.specs.Prelude.{◌≡◌, ℕ, ◌+◌, ◌<◌, List, [], ◌∷◌, ◌++◌, None, length, slice_set}
use Rattle.containers.specs.Tree.{add_lists, record_at}
use Rattle.containers.specs.WellFormed.{IsWellFormed}
use Rattle.arena_state.specs.declared.records.Record.{Record}
use Rattle.arena_state.specs.declared.pieces.Pieces.{Pieces}
use Rattle.arena_state.specs.Assembled.{record_in, body_use, with_use}

-- the records, one of which uses so many pages more
abbrev pub charged : List Record → ℕ → ℕ → List Record
charged records slot pages =
    slice_set records slot
    (with_use (body_use (record_in records slot).body + pages) (record_in records slot))

-- the record x got a free slot and the next id, which came last in d's list; d, whose slot is the
-- parent's, is charged its quota
pub record IsPlaced (old new : Pieces) (d parent : ℕ) (x : Record) : Type 0 where
  pub slot : ℕ
  pub vacant : record_at old.places slot ≡ None
  pub within : slot < length old.places.cells
  pub limits : new.limits ≡ old.limits
  pub next_id : new.next_id ≡ old.next_id + 1
  pub next_category : new.next_category ≡ old.next_category
  pub lists : new.places.lists
      ≡ add_lists old.places.lists d old.next_id ++ (old.next_id, []) ∷ []
  pub slots : new.places.slots ≡ old.places.slots ++ slot ∷ []
  pub cells : length new.places.cells ≡ length old.places.cells
  pub tree : IsWellFormed new.places
  pub labels : new.holdings.labels ≡ old.holdings.labels
  pub segments : new.holdings.segments ≡ old.holdings.segments
  pub queues : new.holdings.queues ≡ old.holdings.queues
  pub spaces : new.holdings.spaces ≡ old.holdings.spaces
  pub records : new.holdings.records.items
      ≡ charged (slice_set old.holdings.records.items slot x) parent x.quota
