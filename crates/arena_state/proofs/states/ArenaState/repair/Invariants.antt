use Rattle.std.proofs.Common.{◌≡◌, ◌-◌}
use Rattle.arena_memory.specs.Rows.{slot_count}
use Rattle.arena_state.specs.Shown.{AreKeptBut}
use Rattle.arena_state.proofs.states.ArenaState.repair.Given as goal

abbrev pub invariant-loop-found : goal.invariant-loop-found
invariant-loop-found l = record {
  rows : AreKeptBut l.self l.change l.from l.rows;
  scans : l.meter.scans ≡ l.initial.meter.scans;
}

abbrev pub decreases-loop-found : goal.decreases-loop-found
decreases-loop-found l = slot_count l.rows - l.from
