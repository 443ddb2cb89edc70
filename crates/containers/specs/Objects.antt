-- What a contract sees of an arena.
use Rattle.std.specs.Prelude.{◌≡◌, ◌≢◌, ℕ, ◌<◌, List, [], length, slice_index, slice_index_or, refl}
use Rattle.std.specs.Prelude.{Option, None, IsSome, replicate, remove, slice_set, Contains}
use Rattle.std.specs.Int.Digits.{digits_of}
use Rattle.std.specs.Coded.{Coded, code_by, coded×, coded_ℕ, coded_list, coded_option}

-- the ids, rising; beside each, its slot; and for each slot the object there, if there is one
pub record Objects (T : Type 0) : Type 0 where
  pub ids : List ℕ
  pub slots : List ℕ
  pub cells : List (Option T)

-- objects are stored as the tuple of their fields
abbrev pub objects_code : {T : Type 0} → Coded T → Coded (Objects T)
objects_code {T} code =
    code_by
    (List ℕ × (List ℕ × List (Option T)))
    (coded× (coded_list coded_ℕ) (coded× (coded_list coded_ℕ) (coded_list (coded_option code))))
    (λ a. (a.ids, (a.slots, a.cells)))
    (λ p. record { ids = p.0; slots = p.1.0; cells = p.1.1 })
    (λ _. refl)

-- the object in a slot, if there is one
abbrev pub object_at : {T : Type 0} → Objects T → ℕ → Option T
object_at a slot = slice_index_or a.cells slot None

-- the id is the one at this place of the directory, with this slot
pub record IsEntry {T : Type 0} (a : Objects T) (place id slot : ℕ) : Type 0 where
  pub within : place < length a.ids
  pub id_is : slice_index a.ids place ≡ id
  pub slot_is : slice_index a.slots place ≡ slot

-- no object has the id
abbrev pub IsAbsent : {T : Type 0} → Objects T → ℕ → Type 0
IsAbsent a id = (k : ℕ) → k < length a.ids → slice_index a.ids k ≢ id

-- the numbers rise
abbrev pub Rises : List ℕ → Type 0
Rises xs = (i j : ℕ) → i < j → j < length xs → slice_index xs i < slice_index xs j

-- no number comes twice
abbrev pub Apart : List ℕ → Type 0
Apart xs = (i j : ℕ) → i < j → j < length xs → slice_index xs i ≢ slice_index xs j

-- ids rise, and each has a slot of its own with an object
pub record IsWellFormed {T : Type 0} (a : Objects T) : Type 0 where
  pub beside : length a.ids ≡ length a.slots
  pub rises : Rises a.ids
  pub apart : Apart a.slots
  pub within : (k : ℕ) → k < length a.slots → slice_index a.slots k < length a.cells
  pub there : (k : ℕ) → k < length a.slots → IsSome (object_at a (slice_index a.slots k))

-- no object, in so many slots
abbrev pub no_objects : {T : Type 0} → ℕ → Objects T
no_objects size = record { ids = []; slots = []; cells = replicate size None }

-- the objects but for the one at this place of the directory, in this slot
abbrev pub without : {T : Type 0} → Objects T → ℕ → ℕ → Objects T
without a place slot =
    record {
      ids = remove a.ids place;
      slots = remove a.slots place;
      cells = slice_set a.cells slot None;
    }

-- the objects but for those of these ids: each other one has the slot that it had, and their slots
-- have none
pub record IsWithoutAll {T : Type 0} (old new : Objects T) (gone : List ℕ) : Type 0 where
  pub beside : length new.ids ≡ length new.slots
  pub rises : Rises new.ids
  pub stays : (place id slot : ℕ) → IsEntry old place id slot → (Contains gone id → ⊥)
      → (at : ℕ) × IsEntry new at id slot
  pub were : (place id slot : ℕ) → IsEntry new place id slot
      → (at : ℕ) × IsEntry old at id slot × (Contains gone id → ⊥)
  pub pool : length new.cells ≡ length old.cells
  pub empty : (place id slot : ℕ) → IsEntry old place id slot → Contains gone id
      → object_at new slot ≡ None
  pub same : (slot : ℕ)
      → ((place id : ℕ) → IsEntry old place id slot → Contains gone id → ⊥)
      → object_at new slot ≡ object_at old slot

-- how many binary digits a number has
abbrev pub binary_digits : ℕ → ℕ
binary_digits n = length (digits_of 2 n)
