use Rattle.std.proofs.Common.{vec_capacity}
use Rattle.plain_core.proofs.RunLaws.{IsRunSoFar}
use Rattle.plain_core.proofs.machine.run.Given as goal

abbrev pub invariant-loop-call : goal.invariant-loop-call
invariant-loop-call g l =
    IsRunSoFar (g.M.Machine.state l.fn.machine) (g.M.Machine.state l.machine) l.calls l.call-index
    l.replies.items (vec_capacity l.replies)
