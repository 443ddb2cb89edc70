use Rattle.std.proofs.Common.{ℕ, List, ◌+◌, ◌++◌, drop, ap, ◌∙◌}
use Rattle.plain_state.specs.StateOf.{state_of}
use Rattle.shown_dumps.specs.Explained.{call_explained, calls_explained}
use Rattle.shown_dumps.proofs.WhyCallLaws.{told_more}
use Rattle.shown_dumps.proofs.why.explaining.put_calls.Goals as goal

pub loop-answered-preserved : goal.loop-answered-preserved
loop-answered-preserved c =
    ap (λ (l : List ℕ). c.put_call.new.out.items
    ++ calls_explained c.args.caller.now.telling.names.now c.args.caller.now.telling.is_whole l (state_of c.put_call.new.state) c.args.caller.now.thread (drop (c.loop-answered.answered-index + 1) c.args.calls.now))
    c.first_line-parts.ensures.rest
    ∙ told_more c.args.caller.now.telling.names.now c.args.caller.now.telling.is_whole c.args.caller.now.thread c.args.calls.now c.loop-answered.answered-index c.answered-item.result
    (state_of c.loop-answered.state) (state_of c.put_call.new.state) c.loop-answered.rest.now c.loop-answered.out.items
    c.put_call.new.out.items c.loop-answered-test.true c.answered-item.is c.in_ok-put_call.ensures.state
    (c.in_ok-put_call.ensures.text
    ∙ ap (λ (l : List ℕ). c.loop-answered.out.items
    ++ call_explained c.args.caller.now.telling.names.now c.args.caller.now.telling.is_whole l (state_of c.loop-answered.state) c.args.caller.now.thread c.answered-item.result.call)
    c.first_line-parts.ensures.line)
    ∙ c.loop-answered.invariant
