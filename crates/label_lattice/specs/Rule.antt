-- What each order test asks of the levels of one category.
use Rattle.std.specs.Prelude.{ℕ, ◌==◌, Bool, nat_le, max, if◌then◌else◌}
use Rattle.base.specs.Level.{rank_of}
use Rattle.base.specs.declared.levels.Level.{Level}
use Rattle.label_lattice.specs.declared.walk.Rule.{Rule}
use Rattle.label_lattice.specs.declared.walk.Rule.TheVariants.{LeqJoin, LeqJoinUp, Floor, Same}

-- the rank of J, above each level: it stands only inside checks
abbrev pub top_rank : ℕ
top_rank = 5

-- star raised to J
abbrev pub up_rank : ℕ → ℕ
up_rank r = if r == 0 then top_rank else r

-- J lowered to star
abbrev pub down_rank : ℕ → ℕ
down_rank r = if r == top_rank then 0 else r

-- what a rule asks of three levels
abbrev pub rule_test : Rule → Level → Level → Level → Bool
rule_test LeqJoin a b c = nat_le (rank_of a) (max (rank_of b) (rank_of c))
rule_test LeqJoinUp a b c = nat_le (rank_of a) (max (rank_of b) (up_rank (rank_of c)))
rule_test Floor a b c =
    nat_le (down_rank (max (up_rank (rank_of a)) (up_rank (rank_of b)))) (rank_of c)
rule_test Same a b c = rank_of a == rank_of b
