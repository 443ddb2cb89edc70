-- Labels whose exceptions lie in one block of 64 categories, as bits.
use Rattle.std.specs.Prelude.{ℕ, zero, suc, ◌+◌, ◌*◌, ◌/◌, ◌%◌, ◌^◌, ◌==◌, Bool, List, [], ◌∷◌, Option, Some, None}
use Rattle.std.specs.Prelude.{if◌then◌else◌, bit_or, map, slice_index_or}
use Rattle.std.specs.List.{list_all}
use Rattle.base.specs.Level.{rank_of}
use Rattle.base.specs.declared.levels.Level.{Level}
use Rattle.base.specs.declared.levels.Level.TheVariants.{Star, L0, L1, L2, L3}
use Rattle.label_lattice.specs.Levels.{level_at}
use Rattle.label_lattice.specs.declared.pairings.Pair.{Pair}
use Rattle.label_lattice.specs.declared.planes.Planes.{Planes}

-- the exceptions lie in the block of a number, whose categories have that 64th part
abbrev pub lie_in : ℕ → List Pair → Bool
lie_in block ps = list_all (λ p. p.category.0 / 64 == block) ps

-- the block of the first exception, and of none the first block
abbrev pub first_block : List Pair → ℕ
first_block [] = 0
first_block (p ∷ ps) = p.category.0 / 64

-- the bit of a category in its block
abbrev pub bit_of : ℕ → ℕ
bit_of c = 2 ^ (c % 64)

-- the places below a number that pass a test, each as a bit
unfoldable pub bits_where : (ℕ → Bool) → ℕ → ℕ
bits_where passes zero = 0
bits_where passes (suc n) = bit_or (bits_where passes n) (if passes n then 2 ^ n else 0)

-- the categories of a block that have a level, each as a bit
abbrev pub plane : ℕ → Level → List Pair → Level → ℕ
plane block default ps l = bits_where (λ h. rank_of (level_at default ps (64 * block + h)) == rank_of l) 64

-- the planes of a block, a level each, from star on
abbrev pub planes_in : ℕ → Level → List Pair → Planes
planes_in block default ps = record {
  block = block;
  having = map (plane block default ps) (Star ∷ L0 ∷ L1 ∷ L2 ∷ L3 ∷ []);
}

-- the planes of the block that all exceptions lie in
abbrev pub planes_of : Level → List Pair → Option Planes
planes_of default ps =
    if lie_in (first_block ps) ps then Some (planes_in (first_block ps) default ps) else None

-- the plane of a level
abbrev pub plane_at : Level → Planes → ℕ
plane_at l ps = slice_index_or ps.having (rank_of l) 0
