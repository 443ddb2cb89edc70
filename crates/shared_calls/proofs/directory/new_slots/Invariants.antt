use Rattle.std.proofs.Common.{◌≡◌, ◌≤◌, ◌-◌, length, vec_capacity}
use Rattle.shared_calls.specs.Directories.{AreOf}
use Rattle.shared_calls.proofs.directory.new_slots.Given as goal

abbrev pub invariant-loop-number : goal.invariant-loop-number
invariant-loop-number l = record {
  within : l.number ≤ l.count;
  room : l.count ≤ vec_capacity l.slots;
  count : length l.slots.items ≡ l.number;
  own : AreOf (λ s. s.book) l.start.book l.slots.items;
}

abbrev pub decreases-loop-number : goal.decreases-loop-number
decreases-loop-number l = l.count - l.number
