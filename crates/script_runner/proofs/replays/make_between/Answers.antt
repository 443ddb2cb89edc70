use Rattle.std.proofs.Common.{arith}
use Rattle.plain_core.proofs.CheckpointLaws.{played_more}
use Rattle.syscall_core.specs.Kernel.{kernel_state}
use Rattle.script_runner.proofs.replays.make_between.Goals as goal

pub loop-place-preserved : goal.loop-place-preserved
loop-place-preserved c = λ limits was.
    played_more limits c.args.events.now c.loop-place.place c.index-events-place.result
    (kernel_state c.loop-place.kernel) (kernel_state c.make_kept.new.kernel) (omega arith) c.index-events-place.is
    (c.loop-place.invariant limits was) c.in_ok-make_kept.ensures
