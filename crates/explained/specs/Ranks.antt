-- What a side of a comparison has at a category, by its number in the order.
use Rattle.std.specs.Prelude.{ℕ, ◌==◌, if◌then◌else◌}
use Rattle.explained.specs.declared.relations.Rank.{Rank}
use Rattle.explained.specs.declared.relations.Rank.TheVariants.{Star, L0, L1, L2, L3, J}

-- star < 0 < 1 < 2 < 3 < J, from 0 on
abbrev pub rank_at : ℕ → Rank
rank_at n =
    if n == 0 then Star else if n == 1 then L0 else if n == 2 then L1 else if n == 3 then L2
    else if n == 4 then L3 else J
