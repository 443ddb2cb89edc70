use Rattle.std.proofs.Common.{◌≡◌, drop}
use Rattle.kernel_rules.specs.Rows.{least_of, refusal_of}
use Rattle.kernel_rules.proofs.refusing.least_with.Given as goal

abbrev pub invariant-loop-condition : goal.invariant-loop-condition
invariant-loop-condition l =
    least_of l.least (refusal_of (drop l.condition-index l.row)) ≡ least_of l.fn.found (refusal_of l.row)
