use Rattle.std.proofs.Common.{drop}
use Rattle.hidden_replies.specs.RunsOf.{runs_of}
use Rattle.hidden_replies.proofs.Keeping.{IsKept}
use Rattle.hidden_replies.proofs.runs.differences.Given as goal

abbrev pub invariant-loop-placed : goal.invariant-loop-placed
invariant-loop-placed l =
    IsKept l.label (runs_of l.fn.runs) l.calls (runs_of l.runs) l.all.items (drop l.placed-index l.calls)
