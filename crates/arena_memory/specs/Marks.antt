-- Marks of objects, by the last binary digits of their ids. No public clause cites this module.
use Rattle.std.specs.Prelude.{◌≡◌, ℕ, ◌-◌, ◌^◌, ◌<◌, ◌≤◌, Bool, true, List, Option, Some, length}
use Rattle.std.specs.Prelude.{bit_and, slice_index_or, slice_set}
use Rattle.kernel_rules.specs.declared.objects.Mapping.{Mapping}
use Rattle.arena_memory.specs.Mappings.{mapping_at}

-- where the mark of an object stands among so many
abbrev pub mark_place : ℕ → ℕ → ℕ
mark_place object count = bit_and object (count - 1)

-- the object's mark is set, or has no place
abbrev pub is_marked : List Bool → ℕ → Bool
is_marked marks object = slice_index_or marks (mark_place object (length marks)) true

-- the marks, and the object's set, if it has a place
abbrev pub with_mark : List Bool → ℕ → List Bool
with_mark marks object = slice_set marks (mark_place object (length marks)) true

-- each object that a mapping is of is marked
abbrev pub AreMarked : List (List (Option Mapping)) → List Bool → Type 0
AreMarked mappings marks = (space place : ℕ) (m : Mapping)
    → mapping_at mappings space place ≡ Some m → is_marked marks m.entry.object ≡ true

-- there are as many as a power of two up to the slots, or none
abbrev pub IsMarkCount : ℕ → ℕ → Type 0
IsMarkCount count slots = 0 < slots → (k : ℕ) × (count ≡ 2 ^ k) × (2 ^ k ≤ slots)
