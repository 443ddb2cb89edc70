use Rattle.plain_core.specs.Kernel.{kernel_state}
use Rattle.plain_core.proofs.CheckpointLaws.{played_more}
use Rattle.plain_core.proofs.checkpointing.played.Goals as goal

pub loop-event-preserved : goal.loop-event-preserved
loop-event-preserved c = (
  played_more c.args.limits.now c.args.events.now c.loop-event.event-index c.event-item.result
      (kernel_state c.loop-event.kernel) (kernel_state c.make_event.new.kernel) c.loop-event-test.true c.event-item.is
      c.loop-event.invariant.0 c.in_ok-make_event.ensures.state,
  c.in_ok-make_event.ensures.sound c.args.limits.now c.requires c.loop-event.invariant.1,
)
