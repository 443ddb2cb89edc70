use Rattle.std.proofs.Common.{◌≡◌, take}
use Rattle.checkpoints.specs.Reached.{IsSound}
use Rattle.kernel_rules.specs.History.{state_of}
use Rattle.plain_core.specs.Kernel.{kernel_state}
use Rattle.plain_core.proofs.checkpointing.played.Given as goal

abbrev pub invariant-loop-event : goal.invariant-loop-event
invariant-loop-event l =
    (kernel_state l.kernel ≡ state_of l.limits (take l.event-index l.events))
    × IsSound l.limits (kernel_state l.kernel)
