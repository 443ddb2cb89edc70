-- How two families of lists over the same cells hold the links. No public clause cites this
-- module. There are as many slots as cells, `size`. In family 0, list d below `size` holds the
-- entries of slot d, list `size` the spare cells and list `size + 1` the last cells of the dying
-- slots. In family 1, list o below `size` holds the links to slot o, and list `size` the spare
-- cells.
use Rattle.std.specs.Prelude.{◌≡◌, ◌≢◌, ℕ, ◌+◌, ◌<◌, ◌⊎◌, List, [], ◌∷◌, ◌++◌, length, sum_by}
use Rattle.std.specs.Prelude.{remove}
use Rattle.containers.specs.Lists.{Lists, family_at, cells_at, StandsAt, IsWellFormed}

-- the cell stands in this list of this family
pub record Stands (r : List Lists) (family head cell : ℕ) : Type 0 where
  pub place : ℕ
  pub stands : StandsAt (cells_at r family head) place cell

-- a cell went from its list of a family to the end of another
pub record IsShifted (old new : List Lists) (family to cell : ℕ) : Type 0 where
  pub well : IsWellFormed (family_at new family)
  pub beside : (g : ℕ) → g ≢ family → family_at new g ≡ family_at old g
  pub arrived : Stands new family to cell
  pub kept : (h x : ℕ) → x ≢ cell → Stands old family h x → Stands new family h x
  pub was : (h x : ℕ) → x ≢ cell → Stands new family h x → Stands old family h x
  pub same : (h : ℕ) → h ≢ to → (Stands old family h cell → ⊥)
      → cells_at new family h ≡ cells_at old family h
  pub less : (h : ℕ) → h ≢ to → Stands old family h cell
      → length (cells_at new family h) + 1 ≡ length (cells_at old family h)
  pub removed : (h k : ℕ) → h ≢ to → StandsAt (cells_at old family h) k cell
      → cells_at new family h ≡ remove (cells_at old family h) k
  pub appended : cells_at new family to ≡ cells_at old family to ++ cell ∷ []
  pub more : length (cells_at new family to) ≡ length (cells_at old family to) + 1
  pub cells : (family_at new family).cells ≡ (family_at old family).cells
  pub heads : length (family_at new family).lists ≡ length (family_at old family).lists
  pub families : length new ≡ length old
  pub total : sum_by length (family_at new family).lists
      ≡ sum_by length (family_at old family).lists

-- the cell became spare
pub record IsFreed (size : ℕ) (old new : List Lists) (cell : ℕ) : Type 0 where
  pub between : List Lists
  pub first : IsShifted old between 0 size cell
  pub second : IsShifted between new 1 size cell

-- the slot's only link went: its cell is among the dying
pub record IsLast (size : ℕ) (old new : List Lists) (object cell : ℕ) : Type 0 where
  pub alone : (c : ℕ) → Stands old 1 object c → c ≡ cell
  pub first : IsShifted old new 0 (size + 1) cell

-- one of several links to the slot went: its cell is spare
pub record IsOneOf (size : ℕ) (old new : List Lists) (object cell : ℕ) : Type 0 where
  pub another : ℕ
  pub apart : another ≢ cell
  pub stands : Stands old 1 object another
  pub freed : IsFreed size old new cell

abbrev pub IsDropped : ℕ → List Lists → List Lists → ℕ → ℕ → Type 0
IsDropped size old new object cell = IsLast size old new object cell
    ⊎ IsOneOf size old new object cell

-- both families have the cells and the lists, and a cell is spare in both or in neither
pub record IsPaired (size : ℕ) (r : List Lists) : Type 0 where
  pub families : length r ≡ 2
  pub well : (g : ℕ) → g < 2 → IsWellFormed (family_at r g)
  pub heads : (g : ℕ) → g < 2 → length (family_at r g).lists ≡ size + 2
  pub cells : (g : ℕ) → g < 2 → (family_at r g).cells ≡ size
  pub object_of : (h c : ℕ) → h ≢ size → Stands r 0 h c → (o : ℕ) × (o < size) × Stands r 1 o c
  pub holder_of : (o c : ℕ) → o ≢ size → Stands r 1 o c
      → (h : ℕ) × (h ≢ size) × (h < size + 2) × Stands r 0 h c
  pub spare : (c : ℕ) → Stands r 0 size c → Stands r 1 size c

-- slot d lists slot o, by this cell
pub record IsLink (size : ℕ) (r : List Lists) (d o cell : ℕ) : Type 0 where
  pub holder : d < size
  pub object : o < size
  pub held : Stands r 0 d cell
  pub names : Stands r 1 o cell

pub record Lists' (size : ℕ) (r : List Lists) (d o : ℕ) : Type 0 where
  pub cell : ℕ
  pub link : IsLink size r d o cell

-- a link leads to the slot, or it is the root's
pub record IsRecorded (size root : ℕ) (r : List Lists) (o : ℕ) : Type 0 where
  pub within : o < size
  pub reached : (o ≡ root) ⊎ ((c : ℕ) × Stands r 1 o c)

-- the only link to the slot is among the dying
pub record IsDying (size : ℕ) (r : List Lists) (o : ℕ) : Type 0 where
  pub cell : ℕ
  pub dying : Stands r 0 (size + 1) cell
  pub names : Stands r 1 o cell

-- what holds between calls and during a sweep
pub record IsSound (size root : ℕ) (r : List Lists) : Type 0 where
  pub paired : IsPaired size r
  pub root_in : root < size
  -- no link leads to the root
  pub root_free : (c : ℕ) → Stands r 1 root c → ⊥
  -- who lists something is recorded
  pub holders : (d c : ℕ) → d < size → Stands r 0 d c → IsRecorded size root r d
  -- a dying slot has no other link
  pub lone : (o c b : ℕ) → Stands r 0 (size + 1) c → Stands r 1 o c → Stands r 1 o b → b ≡ c

-- a spare cell became a link, the last of the container's entries
pub record IsAdded (size : ℕ) (old new : List Lists) (container object : ℕ) : Type 0 where
  pub cell : ℕ
  pub was_spare : Stands old 0 size cell
  pub between : List Lists
  pub first : IsShifted old between 0 container cell
  pub second : IsShifted between new 1 object cell
