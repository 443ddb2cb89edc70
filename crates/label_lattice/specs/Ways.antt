-- The bits by which the levels of one category compare, each way.
use Rattle.std.specs.Prelude.{ℕ, ◌+◌, ◌*◌, ◌==◌, Bool, nat_le, if◌then◌else◌}
use Rattle.std.specs.Int.{bit_at}
use Rattle.base.specs.Level.{rank_of}
use Rattle.base.specs.declared.levels.Level.{Level}
use Rattle.label_lattice.specs.Rule.{up_rank}

-- 1 where a is at most b, 2 where it is with b's star raised to J, 4 where it is with both raised
abbrev pub way_bits : Level → Level → ℕ
way_bits a b =
    (if nat_le (rank_of a) (rank_of b) then 1 else 0)
    + (if nat_le (rank_of a) (up_rank (rank_of b)) then 2 else 0)
    + (if nat_le (up_rank (rank_of a)) (up_rank (rank_of b)) then 4 else 0)

-- the bits forth, and eight times those back
abbrev pub both_bits : Level → Level → ℕ
both_bits a b = way_bits a b + 8 * way_bits b a

-- one of these bits is there
abbrev pub both_test : ℕ → Level → Level → Level → Bool
both_test k a b c = bit_at (both_bits a b) k == 1
