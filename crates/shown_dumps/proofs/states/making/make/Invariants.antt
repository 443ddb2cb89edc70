use Rattle.std.proofs.Common.{◌≡◌, drop, map}
use Rattle.kernel_rules.specs.Events.{by}
use Rattle.kernel_rules.specs.Runs.{state_after}
use Rattle.plain_state.specs.StateOf.{state_of}
use Rattle.shown_dumps.proofs.states.making.make.Given as goal

abbrev pub invariant-loop-answered : goal.invariant-loop-answered
invariant-loop-answered l =
    state_after (state_of l.state) (by l.thread (map (λ a. a.call) (drop l.answered-index l.calls)))
    ≡ state_after (state_of l.fn.state) (by l.thread (map (λ a. a.call) l.calls))
