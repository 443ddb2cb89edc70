use Rattle.std.proofs.Common.{◌≡◌, ◌≤◌, ◌-◌}
use mathlib.Core.List.{IsPrefix}
use Rattle.shared_calls.specs.Cursors.{IsPlaced}
use Rattle.shared_calls.proofs.beginnings.end_at.Given as goal

abbrev pub invariant-loop-end : goal.invariant-loop-end
invariant-loop-end l = record {
  placed : IsPlaced l.end;
  list : l.end.seen.book ≡ l.cursor.seen.book;
  begins : IsPrefix l.cursor.seen.log l.end.seen.log;
  after : l.cursor.count ≤ l.end.count;
  within : l.end.count ≤ l.count;
}

abbrev pub decreases-loop-end : goal.decreases-loop-end
decreases-loop-end l = l.count - l.end.count
