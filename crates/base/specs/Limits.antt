-- Which limits a machine boots with.
use Rattle.std.specs.Prelude.{ℕ, ◌^◌, Bool, not, ◌&&◌, ◌==◌, nat_le}
use Rattle.base.specs.declared.ranges.Limits.{Limits}
use Rattle.base.specs.Level.{rank_of}

-- a counter that stands there is spent: it gives no id or category
abbrev pub spent : ℕ
spent = 2 ^ 61

-- each limit is in its range
abbrev pub in_range : Limits → Bool
in_range l =
    nat_le 8 l.pages && nat_le l.pages 1024 && not (rank_of l.device == 0)
    && nat_le 4 l.next_id && nat_le l.next_id spent
    && nat_le 1 l.next_category && nat_le l.next_category spent
