-- Hints of where objects are. No public clause cites this module.
use Rattle.std.specs.Prelude.{◌≡◌, ◌≢◌, ℕ, ◌-◌, ◌*◌, ◌^◌, ◌<◌, ◌≤◌, ◌⊎◌, List, length, slice_index, slice_index_or, bit_and}
use Rattle.containers.specs.declared.object_arena.hints.Hint.{Hint}

-- a hint of no id
abbrev pub blank : Hint
blank = record { id = 0; slot = 0 }

abbrev pub hint_at : List Hint → ℕ → Hint
hint_at hints k = slice_index_or hints k blank

-- where the hint of an id stands among so many
abbrev pub hint_place : ℕ → ℕ → ℕ
hint_place id count = bit_and id (count - 1)

-- a hint tells where an id's object is, and stands at the id's place
pub record IsHint (ids slots : List ℕ) (count k : ℕ) (h : Hint) : Type 0 where
  pub stands : hint_place h.id count ≡ k
  pub at : ℕ
  pub within : at < length ids
  pub id_is : slice_index ids at ≡ h.id
  pub slot_is : slice_index slots at ≡ h.slot

-- so do all that are no blanks
abbrev pub AreHints : List ℕ → List ℕ → List Hint → Type 0
AreHints ids slots hints = (k : ℕ) → 0 < (hint_at hints k).id
    → IsHint ids slots (length hints) k (hint_at hints k)

-- all stay, but that this hint may have taken the place of its id, where a blank was
pub record IsKeptHint (old new : List Hint) (h : Hint) : Type 0 where
  pub count : length new ≡ length old
  pub each : (k : ℕ) → (hint_at new k ≡ hint_at old k)
      ⊎ ((k ≡ hint_place h.id (length old)) × ((hint_at old k).id ≡ 0) × (hint_at new k ≡ h))

-- all stay or are blank now, and none is of the first so many of these ids
pub record IsForgotten (old new : List Hint) (gone : List ℕ) (many : ℕ) : Type 0 where
  pub count : length new ≡ length old
  pub each : (k : ℕ) → (hint_at new k ≡ hint_at old k) ⊎ (hint_at new k ≡ blank)
  pub none : (i : ℕ) → i < many → 0 < slice_index gone i
      → (hint_at new (hint_place (slice_index gone i) (length old))).id ≢ slice_index gone i

-- there are eight times as many as a power of two up to the size, or none
abbrev pub IsHintCount : ℕ → ℕ → Type 0
IsHintCount count size = 0 < count → (k : ℕ) × (count ≡ 8 * 2 ^ k) × (2 ^ k ≤ size)
