-- What a contract sees of containers: objects with their lists of entries, their slots and their
-- records.
use Rattle.std.specs.Prelude.{◌≡◌, ℕ, ◌<◌, cond, not, ◌==◌, List, [], ◌∷◌, ◌++◌, map, length}
use Rattle.std.specs.Prelude.{slice_index}
use Rattle.std.specs.Prelude.{Option, Some, None, replicate, slice_index_or, slice_set, sum_by}
use Rattle.std.specs.Prelude.{refl}
use Rattle.std.specs.List.{filter}
use Rattle.std.specs.Coded.{Coded, code_by, coded×, coded_ℕ, coded_list, coded_option}
use Rattle.base.specs.Live.{is_live}

-- each id, rising, with the ids that it lists, in the order of linking; beside each id its slot;
-- and for each slot the record there, if there is one
pub record Tree (T : Type 0) : Type 0 where
  pub lists : List (ℕ × List ℕ)
  pub slots : List ℕ
  pub cells : List (Option T)

-- a tree is stored as the tuple of its fields
abbrev pub tree_code : {T : Type 0} → Coded T → Coded (Tree T)
tree_code {T} code =
    code_by
    (List (ℕ × List ℕ) × (List ℕ × List (Option T)))
    (coded× (coded_list (coded× coded_ℕ (coded_list coded_ℕ))) (coded× (coded_list coded_ℕ)
    (coded_list (coded_option code))))
    (λ a. (a.lists, (a.slots, a.cells)))
    (λ p. record { lists = p.0; slots = p.1.0; cells = p.1.1 })
    (λ _. refl)

-- the ids that have a list
abbrev pub ids_in : List (ℕ × List ℕ) → List ℕ
ids_in lists = map (λ e. e.0) lists

-- how many links there are
abbrev pub link_count : List (ℕ × List ℕ) → ℕ
link_count lists = sum_by (λ e. length e.1) lists

-- the list of an id
abbrev pub list_of : List (ℕ × List ℕ) → ℕ → List ℕ
list_of [] i = []
list_of (e ∷ es) i = cond (i == e.0) e.1 (list_of es i)

-- the list without the id
abbrev pub without : ℕ → List ℕ → List ℕ
without o ids = filter (λ i. not (o == i)) ids

-- the lists, and d's with o at its end
abbrev pub add_lists : List (ℕ × List ℕ) → ℕ → ℕ → List (ℕ × List ℕ)
add_lists lists d o = map (λ e. (e.0, cond (d == e.0) (e.1 ++ o ∷ []) e.1)) lists

-- the lists, and d's without o
abbrev pub cut_lists : List (ℕ × List ℕ) → ℕ → ℕ → List (ℕ × List ℕ)
cut_lists lists d o = map (λ e. (e.0, cond (d == e.0) (without o e.1) e.1)) lists

-- the lists of those to which a path leads from the root
abbrev pub live_part : List (ℕ × List ℕ) → List (ℕ × List ℕ)
live_part lists = filter (λ e. is_live lists e.0) lists

-- the record in a slot, if there is one
abbrev pub record_at : {T : Type 0} → Tree T → ℕ → Option T
record_at t slot = slice_index_or t.cells slot None

-- the object has this slot
pub record HasSlot {T : Type 0} (t : Tree T) (id slot : ℕ) : Type 0 where
  pub place : ℕ
  pub within : place < length (ids_in t.lists)
  pub id_is : slice_index (ids_in t.lists) place ≡ id
  pub slot_is : slice_index t.slots place ≡ slot

-- the root alone, with its record, in a pool of so many slots and as many links
pub record IsRoot {T : Type 0} (pool : ℕ) (value : T) (t : Tree T) : Type 0 where
  pub slot : ℕ
  pub within : slot < pool
  pub lists : t.lists ≡ (1, []) ∷ []
  pub slots : t.slots ≡ slot ∷ []
  pub cells : t.cells ≡ slice_set (replicate pool None) slot (Some value)
