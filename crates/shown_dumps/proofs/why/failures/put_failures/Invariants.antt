use Rattle.std.proofs.Common.{◌≡◌, ◌++◌, drop}
use Rattle.std.specs.List.{flat_map}
use Rattle.shown_dumps.specs.Parts.{failure_text}
use Rattle.shown_dumps.proofs.why.failures.put_failures.Given as goal

abbrev pub invariant-loop-failure : goal.invariant-loop-failure
invariant-loop-failure l =
    l.out.items ++ flat_map (failure_text l.names) (drop l.failure-index l.failures)
    ≡ l.fn.out.items ++ flat_map (failure_text l.names) l.failures
