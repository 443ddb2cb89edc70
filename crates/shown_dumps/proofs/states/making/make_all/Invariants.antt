use Rattle.std.proofs.Common.{◌≡◌, drop}
use Rattle.kernel_rules.specs.History.{state_from}
use Rattle.plain_state.specs.StateOf.{state_of}
use Rattle.shown_dumps.proofs.states.making.make_all.Given as goal

abbrev pub invariant-loop-event : goal.invariant-loop-event
invariant-loop-event l =
    state_from (state_of l.state) (drop l.event-index l.events) ≡ state_from (state_of l.fn.state) l.events
