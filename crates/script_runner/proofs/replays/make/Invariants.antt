use Rattle.std.proofs.Common.{◌≡◌, take, map}
use Rattle.kernel_rules.specs.Events.{by}
use Rattle.kernel_rules.specs.Runs.{state_after}
use Rattle.syscall_core.specs.Kernel.{kernel_state}
use Rattle.script_runner.proofs.replays.make.Given as goal

abbrev pub invariant-loop-answered : goal.invariant-loop-answered
invariant-loop-answered l =
    kernel_state l.kernel
    ≡ state_after (kernel_state l.fn.kernel) (by l.thread (map (λ a. a.call) (take l.answered-index l.calls)))
