-- Rows of translation by slot, each of sixteen places, and which slots are threads'.
use Rattle.std.specs.Prelude.{◌≡◌, ◌+◌, ◌-◌, ◌<◌, ◌≤◌, ℕ, List, [], Option, Some, None}
use Rattle.std.specs.Prelude.{length, replicate, slice_index_or, slice_set}
use Rattle.base.specs.declared.sets.Rights.{Rights}
use Rattle.arena_memory.specs.declared.translation_rows.rows.ThreadSlot.{ThreadSlot}

-- what one slot of an address space shows: a segment with the rights to it, or nothing
abbrev pub Shows : Type 0
Shows = Option (ℕ × Rights)

-- for each slot the thread that it is, if it is one, and the row
pub record BySlot : Type 0 where
  pub threads : List (Option ℕ)
  pub rows : List (List Shows)

-- how many slots there are
abbrev pub slot_count : BySlot → ℕ
slot_count a = length a.rows

-- the thread that a slot names
abbrev pub thread_at : BySlot → ℕ → Option ℕ
thread_at a slot = slice_index_or a.threads slot None

-- the row of a slot
abbrev pub row_at : BySlot → ℕ → List Shows
row_at a slot = slice_index_or a.rows slot []

-- what a place of a slot's row shows
abbrev pub shown_at : BySlot → ℕ → ℕ → Shows
shown_at a slot place = slice_index_or (row_at a slot) place None

-- the first slot from one on that names a thread, and the thread that it names
pub record IsNext (a : BySlot) (from slot thread : ℕ) : Type 0 where
  pub behind : from ≤ slot
  pub within : slot < slot_count a
  pub names : thread_at a slot ≡ Some thread
  pub first : (passed : ℕ) → from ≤ passed → passed < slot → thread_at a passed ≡ None

-- how many slots a walk reads from one on: up to the one that it finds, and else all of them
abbrev pub walked : BySlot → ℕ → Option ThreadSlot → ℕ
walked a from None = slot_count a - from
walked a from (Some found) = found.slot.0 + 1 - from

-- the same but for one slot
abbrev pub with_row : BySlot → ℕ → Option ℕ → List Shows → BySlot
with_row a slot thread row = record {
  threads = slice_set a.threads slot thread;
  rows = slice_set a.rows slot row;
}

-- so many slots that name no thread, whose rows show nothing
abbrev pub no_rows : ℕ → BySlot
no_rows slots = record {
  threads = replicate slots None;
  rows = replicate slots (replicate 16 None);
}
