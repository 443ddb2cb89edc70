use Rattle.std.proofs.Common.{◌≡◌, true, take, map}
use Rattle.base.specs.Limits.{in_range}
use Rattle.base.specs.declared.ranges.Limits.{Limits}
use Rattle.checkpoints.specs.Reached.{IsSound}
use Rattle.kernel_rules.specs.Events.{by}
use Rattle.kernel_rules.specs.Runs.{state_after}
use Rattle.plain_core.specs.Kernel.{kernel_state}
use Rattle.plain_core.proofs.checkpointing.make.Given as goal

abbrev pub invariant-loop-answered : goal.invariant-loop-answered
invariant-loop-answered l =
    (kernel_state l.kernel
    ≡ state_after (kernel_state l.fn.kernel) (by l.thread (map (λ a. a.call) (take l.answered-index l.calls))))
    × ((limits : Limits) → in_range limits ≡ true → IsSound limits (kernel_state l.fn.kernel)
    → IsSound limits (kernel_state l.kernel))
