use Rattle.std.proofs.Common.{◌≡◌, ℕ, ◌<◌, Some, None, length, get_or}
use Rattle.kernel_rules.specs.Translate.{through_space}
use Rattle.arena_state.specs.States.{state_of}
use Rattle.arena_state.proofs.states.ArenaState.row_through.Given as goal

abbrev pub invariant-loop-place : goal.invariant-loop-place
invariant-loop-place l = record {
  long : length l.row ≡ 16;
  shown : (i : ℕ) → i < l.place → get_or l.row i None ≡ through_space (state_of l.self) l.thread i (Some l.space);
  scans : l.meter.scans ≡ l.initial.meter.scans;
}
