use Rattle.std.proofs.Common.{◌≡◌, ◌++◌, ◌≤◌, length, drop, vec_capacity}
use Rattle.flows.specs.Carriers.{touches}
use Rattle.plain_state.specs.StateOf.{state_of}
use Rattle.flows.proofs.plays.play_all.Given as goal

abbrev pub invariant-loop-step : goal.invariant-loop-step
invariant-loop-step l = record {
  played : l.all.items ++ touches (state_of l.state) l.category.0 (drop l.step-index l.steps)
      ≡ touches (state_of l.fn.state) l.category.0 l.steps;
  count : length l.all.items ≡ l.step-index;
  room : length l.steps ≤ vec_capacity l.all;
}
