use Rattle.syscall_core.specs.Kernel.{kernel_state}
use Rattle.shared_calls.proofs.Played.{played_more}
use Rattle.shared_calls.proofs.playing.play_more.Goals as goal

pub loop-call-preserved : goal.loop-call-preserved
loop-call-preserved c =
    played_more _ (kernel_state c.loop-call.kernel) _ _ _ _ c.call-item.result
    c.loop-call.invariant c.loop-call-test.true c.call-item.is c.play_call.ensures.state
