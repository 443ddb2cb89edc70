use Rattle.std.proofs.Common.{vec_capacity}
use Rattle.kernel_rules.proofs.BatchLaws.{IsMadeSoFar}
use Rattle.syscall_core.specs.Kernel.{kernel_state}
use Rattle.shared_calls.proofs.playing.make_all.Given as goal

abbrev pub invariant-loop-call : goal.invariant-loop-call
invariant-loop-call l =
    IsMadeSoFar (kernel_state l.fn.kernel) (kernel_state l.kernel) l.thread l.calls l.call-index
    l.replies.items (vec_capacity l.replies)
