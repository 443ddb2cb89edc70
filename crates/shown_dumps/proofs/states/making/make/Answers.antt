use Rattle.std.proofs.Common.{◌∙◌}
use Rattle.plain_state.specs.StateOf.{state_of}
use Rattle.shown_dumps.proofs.CallLaws.{made_more}
use Rattle.shown_dumps.proofs.states.making.make.Goals as goal

pub loop-answered-preserved : goal.loop-answered-preserved
loop-answered-preserved c =
    made_more c.args.thread c.args.calls.now c.loop-answered.answered-index c.answered-item.result
    (state_of c.loop-answered.state) (state_of c.step.new.state) c.loop-answered-test.true c.answered-item.is
    c.in_ok-step.ensures.ok
    ∙ c.loop-answered.invariant
