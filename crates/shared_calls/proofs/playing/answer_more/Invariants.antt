use Rattle.std.proofs.Common.{◌≡◌, ◌+◌, ◌++◌, length, take, vec_capacity}
use Rattle.kernel_rules.specs.Events.{by}
use Rattle.kernel_rules.specs.History.{answered}
use Rattle.kernel_rules.specs.Runs.{state_after}
use Rattle.syscall_core.specs.Kernel.{kernel_state}
use Rattle.shared_calls.proofs.playing.answer_more.Given as goal

abbrev pub invariant-loop-call : goal.invariant-loop-call
invariant-loop-call l = record {
  state : kernel_state l.kernel ≡ state_after (kernel_state l.fn.kernel) (by l.thread (take l.call-index l.calls));
  told : l.all.items ≡ l.fn.all.items ++ answered (kernel_state l.fn.kernel) l.thread (take l.call-index l.calls);
  room : vec_capacity l.all ≡ vec_capacity l.fn.all;
  count : length l.all.items ≡ length l.fn.all.items + l.call-index;
}
