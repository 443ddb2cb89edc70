use Rattle.std.proofs.Common.{take}
use Rattle.plain_core.specs.Kernel.{kernel_state}
use Rattle.auditor.proofs.CountLaws.{IsMade}
use Rattle.auditor.proofs.replays.make.Given as goal

abbrev pub invariant-loop-earlier : goal.invariant-loop-earlier
invariant-loop-earlier l =
    IsMade (kernel_state l.fn.kernel) (kernel_state l.kernel) l.thread (take l.earlier-index l.calls) l.made.items
