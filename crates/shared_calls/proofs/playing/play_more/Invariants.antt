use Rattle.std.proofs.Common.{◌≡◌, take}
use Rattle.kernel_rules.specs.Events.{by}
use Rattle.kernel_rules.specs.Runs.{state_after}
use Rattle.syscall_core.specs.Kernel.{kernel_state}
use Rattle.shared_calls.proofs.playing.play_more.Given as goal

abbrev pub invariant-loop-call : goal.invariant-loop-call
invariant-loop-call l = kernel_state l.kernel ≡ state_after (kernel_state l.fn.kernel) (by l.thread (take l.call-index l.calls))
