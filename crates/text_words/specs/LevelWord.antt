-- The spelling of levels.
use Rattle.std.specs.Prelude.{ℕ, List, codes}
use Rattle.base.specs.declared.levels.Level.{Level}
use Rattle.base.specs.declared.levels.Level.TheVariants.{Star, L0, L1, L2, L3}

-- one byte each
abbrev pub level_text : Level → List ℕ
level_text Star = codes "*"
level_text L0 = codes "0"
level_text L1 = codes "1"
level_text L2 = codes "2"
level_text L3 = codes "3"
