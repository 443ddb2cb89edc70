-- The order bits of two labels.
use Rattle.std.specs.Prelude.{ℕ, ◌+◌, if◌then◌else◌}
use Rattle.label_lattice.specs.Label.{LabelValue}
use Rattle.label_lattice.specs.Order.{levels, leq_test, up}

-- 1 where a is at most b, 2 where it is with b's star raised to J, 4 where it is with both raised
abbrev pub bits_of : LabelValue → LabelValue → ℕ
bits_of a b =
    (if leq_test (levels a) (levels b) then 1 else 0)
    + (if leq_test (levels a) (up (levels b)) then 2 else 0)
    + (if leq_test (up (levels a)) (up (levels b)) then 4 else 0)
