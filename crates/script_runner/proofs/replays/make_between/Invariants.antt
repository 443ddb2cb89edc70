use Rattle.std.proofs.Common.{◌≡◌, take}
use Rattle.base.specs.declared.ranges.Limits.{Limits}
use Rattle.kernel_rules.specs.History.{state_of}
use Rattle.syscall_core.specs.Kernel.{kernel_state}
use Rattle.script_runner.proofs.replays.make_between.Given as goal

abbrev pub invariant-loop-place : goal.invariant-loop-place
invariant-loop-place l =
    (limits : Limits) → kernel_state l.fn.kernel ≡ state_of limits (take l.from l.events)
    → kernel_state l.kernel ≡ state_of limits (take l.place l.events)
