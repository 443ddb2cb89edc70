-- The bytes of segments, by slot.
use Rattle.std.specs.Prelude.{◌≡◌, ℕ, ◌+◌, ◌*◌, ◌/◌, ◌≤◌, List, [], length, slice_index_or}
use Rattle.std.specs.Prelude.{sum_by}
use Rattle.kernel_rules.specs.Sizes.{page_bytes, most_pages}

-- the bytes of a slot
abbrev pub bytes_in : List (List ℕ) → ℕ → List ℕ
bytes_in segments slot = slice_index_or segments slot []

-- how many pages some bytes fill
abbrev pub pages_of : List ℕ → ℕ
pages_of bytes = length bytes / page_bytes

-- how many pages a slot has
abbrev pub pages_in : List (List ℕ) → ℕ → ℕ
pages_in segments slot = pages_of (bytes_in segments slot)

-- how many pages all slots have
abbrev pub all_pages : List (List ℕ) → ℕ
all_pages segments = sum_by pages_of segments

-- there are frames for a slot to have so many pages, where there are as many frames as slots
abbrev pub HasRoom : List (List ℕ) → ℕ → ℕ → Type 0
HasRoom segments slot pages =
    all_pages segments + pages ≤ length segments + pages_in segments slot

-- each slot has whole pages, sixteen at most, and all have no more than there are slots
pub record IsWellFormed (segments : List (List ℕ)) : Type 0 where
  pub whole : (slot : ℕ) → length (bytes_in segments slot) ≡ page_bytes * pages_in segments slot
  pub few : (slot : ℕ) → pages_in segments slot ≤ most_pages
  pub room : all_pages segments ≤ length segments
