-- Rows that say what is shown.
use Rattle.std.specs.Prelude.{◌≡◌, ◌≢◌, ℕ, ◌<◌, ◌⊎◌, false, List, Option, Some, None, slice_index_or}
use Rattle.std.specs.Prelude.{option_map, if◌then◌else◌}
use Rattle.containers.specs.Tree.{HasSlot}
use Rattle.kernel_rules.specs.State.{State}
use Rattle.kernel_rules.specs.Translate.{names_none, own_space, translate}
use Rattle.kernel_rules.specs.declared.calls.Entry.{Entry}
use Rattle.arena_memory.specs.Rows.{BySlot, Shows, row_at, slot_count, thread_at}
use Rattle.arena_state.specs.declared.rows.repairs.Change.{Change}
use Rattle.arena_state.specs.declared.states.ArenaState.{ArenaState}
use Rattle.arena_state.specs.States.{state_of}
use Rattle.arena_state.specs.Touched.{touches}

-- the row says of each slot what it shows to the thread
abbrev pub IsRow : State → ℕ → List Shows → Type 0
IsRow s thread row = (i : ℕ) → i < 16 → slice_index_or row i None ≡ translate s thread i

-- the entry, where it names an address space
abbrev pub named_space : Option Entry → Option Entry
named_space None = None
named_space (Some space) = if names_none space then None else Some space

-- the id, where it has an address space
abbrev pub named_by : ℕ → Option Entry → Option ℕ
named_by id space = option_map (λ _. id) (named_space space)

-- the id, if it is a thread in an address space
abbrev pub thread_named : State → ℕ → Option ℕ
thread_named s id = named_by id (own_space s id)

-- the slot has the row of the object, and names it if it is a thread in an address space
pub record Tells (s : State) (id : ℕ) (rows : BySlot) (slot : ℕ) : Type 0 where
  pub row : IsRow s id (row_at rows slot)
  pub thread : thread_at rows slot ≡ thread_named s id

-- there is a row for each slot, and that of an object's slot says what is shown to the object:
-- nothing to any but a thread in an address space, which the slot names
pub record AreKept (a : ArenaState) (rows : BySlot) : Type 0 where
  pub size : slot_count rows ≡ (state_of a).limits.pages
  pub kept : (id slot : ℕ) → HasSlot a.pieces.places id slot
      → IsRow (state_of a) id (row_at rows slot)
  pub named : (id slot : ℕ) → HasSlot a.pieces.places id slot
      → thread_at rows slot ≡ thread_named (state_of a) id

-- so it is but for the rows that the change touches, from slot n on
pub record AreKeptBut (a : ArenaState) (c : Change) (n : ℕ) (rows : BySlot) : Type 0 where
  pub size : slot_count rows ≡ (state_of a).limits.pages
  pub kept : (id slot : ℕ) → HasSlot a.pieces.places id slot
      → (slot < n) ⊎ (touches (state_of a) c id ≡ false)
      → IsRow (state_of a) id (row_at rows slot)
  pub named : (id slot : ℕ) → HasSlot a.pieces.places id slot
      → thread_at rows slot ≡ thread_named (state_of a) id

-- the slot has the thread and the row that it had
pub record SameAt (old new : BySlot) (slot : ℕ) : Type 0 where
  pub thread : thread_at new slot ≡ thread_at old slot
  pub row : row_at new slot ≡ row_at old slot

-- each object but o has the slot that it had
abbrev pub KeepsSlots : ArenaState → ArenaState → ℕ → Type 0
KeepsSlots old new o = (id slot : ℕ) → id ≢ o → HasSlot new.pieces.places id slot
    → HasSlot old.pieces.places id slot

-- each object has the slot that it had
abbrev pub KeepsAllSlots : ArenaState → ArenaState → Type 0
KeepsAllSlots old new = (id slot : ℕ) → HasSlot new.pieces.places id slot
    → HasSlot old.pieces.places id slot
