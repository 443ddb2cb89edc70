-- The order of levels.
use Rattle.std.specs.Prelude.{ℕ}
use Rattle.base.specs.declared.levels.Level.{Level}
use Rattle.base.specs.declared.levels.Level.TheVariants.{Star, L0, L1, L2, L3}

-- the place of a level in the order: star < 0 < 1 < 2 < 3, below the rank 5 of J
abbrev pub rank_of : Level → ℕ
rank_of Star = 0
rank_of L0 = 1
rank_of L1 = 2
rank_of L2 = 3
rank_of L3 = 4
