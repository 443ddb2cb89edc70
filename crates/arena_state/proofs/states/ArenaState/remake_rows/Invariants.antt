use Rattle.std.proofs.Common.{◌≡◌}
use Rattle.arena_memory.specs.Rows.{slot_count}
use Rattle.arena_state.specs.States.{state_of}
use Rattle.arena_state.proofs.ShownLaws.{AreMade}
use Rattle.arena_state.proofs.states.ArenaState.remake_rows.Given as goal

abbrev pub invariant-loop-place : goal.invariant-loop-place
invariant-loop-place l = record {
  size : slot_count l.rows ≡ (state_of l.self).limits.pages;
  made : AreMade l.self l.rows l.place;
  scans : l.meter.scans ≡ l.initial.meter.scans;
}
