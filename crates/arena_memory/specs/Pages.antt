-- The pages of segments, by slot, and the frames that they lie in. No public clause cites this
-- module.
use Rattle.std.specs.Prelude.{◌≡◌, ℕ, ◌<◌, ◌≤◌, List, [], ◌∷◌, map, length, sum_by}
use Rattle.std.specs.Prelude.{slice_index, slice_index_or, replicate}
use Rattle.kernel_rules.specs.Sizes.{page_bytes, most_pages}

-- the pages of a slot
abbrev pub pages_at : List (List (List ℕ)) → ℕ → List (List ℕ)
pages_at slots slot = slice_index_or slots slot []

-- a page of a slot
abbrev pub page_at : List (List (List ℕ)) → ℕ → ℕ → List ℕ
page_at slots slot place = slice_index_or (pages_at slots slot) place []

-- how many pages all slots have
abbrev pub page_total : List (List (List ℕ)) → ℕ
page_total slots = sum_by length slots

-- pages are 256 bytes, a slot has sixteen at most, and all have no more than there are slots
pub record IsPaged (slots : List (List (List ℕ))) : Type 0 where
  pub whole : (slot place : ℕ) → place < length (pages_at slots slot)
      → length (page_at slots slot place) ≡ page_bytes
  pub few : (slot : ℕ) → length (pages_at slots slot) ≤ most_pages
  pub room : page_total slots ≤ length slots

-- the pages in these frames
abbrev pub pages_from : List (List ℕ) → List ℕ → List (List ℕ)
pages_from frames table = map (λ frame. slice_index_or frames frame []) table

-- a frame of a list
abbrev pub frame_at : List (List ℕ) → ℕ → ℕ → ℕ
frame_at lists i k = slice_index (slice_index_or lists i []) k

-- no frame stands in two places
abbrev pub IsApart : List (List ℕ) → Type 0
IsApart lists =
    (i j k l : ℕ) → k < length (slice_index_or lists i []) → l < length (slice_index_or lists j [])
    → frame_at lists i k ≡ frame_at lists j l → (i ≡ j) × (k ≡ l)

-- the frames: each stands once, free or in a slot's table; one that is free holds 0 alone, so that
-- nothing is left of what was given back
pub record IsKept (frames : List (List ℕ)) (tables : List (List ℕ)) (free : List ℕ) : Type 0 where
  pub apart : IsApart (free ∷ tables)
  pub within : (i k : ℕ) → k < length (slice_index_or (free ∷ tables) i [])
      → frame_at (free ∷ tables) i k < length frames
  pub all : sum_by length (free ∷ tables) ≡ length tables
  pub few : (slot : ℕ) → length (slice_index_or tables slot []) ≤ most_pages
  pub whole : (frame : ℕ) → frame < length frames
      → length (slice_index_or frames frame []) ≡ page_bytes
  pub blank : (k : ℕ) → k < length free
      → slice_index_or frames (slice_index free k) [] ≡ replicate page_bytes 0
