use Rattle.std.proofs.Common.{◌≡◌, ◌++◌, drop}
use Rattle.auditor.specs.Steps.{steps_by}
use Rattle.auditor.proofs.tracing.steps.add_calls.Given as goal

abbrev pub invariant-loop-answered : goal.invariant-loop-answered
invariant-loop-answered l =
    l.steps.items ++ steps_by l.thread (drop l.answered-index l.calls)
    ≡ l.fn.steps.items ++ steps_by l.thread l.calls
