use Rattle.std.proofs.Common.{◌≡◌, ◌++◌, drop}
use Rattle.plain_state.specs.StateOf.{state_of}
use Rattle.shown_dumps.specs.Explained.{calls_explained}
use Rattle.shown_dumps.proofs.why.explaining.put_calls.Given as goal

abbrev pub invariant-loop-answered : goal.invariant-loop-answered
invariant-loop-answered l =
    l.out.items ++ calls_explained l.caller.telling.names.now l.caller.telling.is_whole l.rest (state_of l.state) l.caller.thread (drop l.answered-index l.calls)
    ≡ l.fn.out.items ++ calls_explained l.caller.telling.names.now l.caller.telling.is_whole l.text (state_of l.fn.state) l.caller.thread l.calls
