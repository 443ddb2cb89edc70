use Rattle.std.proofs.Common.{◌≡◌, ◌++◌, map, drop}
use Rattle.auditor.specs.Steps.{read_step}
use Rattle.auditor.proofs.tracing.steps.add_reads.Given as goal

abbrev pub invariant-loop-placed : goal.invariant-loop-placed
invariant-loop-placed l =
    l.steps.items ++ map read_step (drop l.placed-index l.reads) ≡ l.fn.steps.items ++ map read_step l.reads
