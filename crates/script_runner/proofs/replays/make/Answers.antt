use Rattle.std.proofs.Common.{◌∙◌, List, ap, map}
use Rattle.std.proofs.lemmas.List.{take_all}
use Rattle.kernel_rules.specs.Events.{by}
use Rattle.kernel_rules.specs.Runs.{state_after}
use Rattle.kernel_rules.specs.declared.histories.events.Answered.{Answered}
use Rattle.plain_core.proofs.CheckpointLaws.{made_more}
use Rattle.syscall_core.specs.Kernel.{kernel_state}
use Rattle.script_runner.proofs.replays.make.Goals as goal

pub loop-answered-preserved : goal.loop-answered-preserved
loop-answered-preserved c =
    made_more c.args.thread c.args.calls.now c.loop-answered.answered-index c.answered-item.result
    (kernel_state c.args.kernel.now) (kernel_state c.loop-answered.kernel) (kernel_state c.step_into.new.self)
    c.loop-answered-test.true c.answered-item.is c.loop-answered.invariant c.step_into.ensures.state

pub returns : goal.returns
returns c =
    c.loop-answered.invariant
    ∙ ap (λ (made : List Answered). state_after (kernel_state c.args.kernel.now) (by c.args.thread (map (λ a. a.call) made)))
    (take_all c.loop-answered.answered-index c.args.calls.now c.loop-answered-test.false)
