-- so many are unplayed
use Rattle.std.proofs.Common.{◌≡◌, ℕ, IfSome, length, slice_get}
use Rattle.script_runner.specs.Turns.{IsUnplayed}
use Rattle.script_runner.proofs.lone_play.idle.Given as goal

abbrev pub invariant-loop : goal.invariant-loop
invariant-loop l = record {
  unplayed : (i : ℕ) → IfSome (slice_get l.idle.items i) IsUnplayed;
  count : length l.idle.items ≡ l.counter;
}
