use Rattle.plain_core.specs.Kernel.{kernel_state}
use Rattle.plain_core.proofs.CheckpointLaws.{made_more, sound_more}
use Rattle.plain_core.proofs.checkpointing.make.Goals as goal

pub loop-answered-preserved : goal.loop-answered-preserved
loop-answered-preserved c = (
  made_more c.args.thread c.args.calls.now c.loop-answered.answered-index c.answered-item.result
      (kernel_state c.args.kernel.now) (kernel_state c.loop-answered.kernel) (kernel_state c.step.new.self)
      c.loop-answered-test.true c.answered-item.is c.loop-answered.invariant.0 c.in_ok-step.ensures.ok,
  λ limits range sound.
      sound_more limits c.args.thread c.answered-item.result.call (kernel_state c.loop-answered.kernel)
      (kernel_state c.step.new.self) range c.well_formed-in-loop-answered.ensures
      c.well_formed-in-loop-answered-2.ensures c.in_ok-step.ensures.ok (c.loop-answered.invariant.1 limits range sound),
)
