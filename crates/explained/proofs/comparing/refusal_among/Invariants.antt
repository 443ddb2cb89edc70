use Rattle.std.proofs.Common.{◌≡◌, drop}
use Rattle.kernel_rules.specs.Rows.{least_of}
use Rattle.explained.specs.Laws.{least}
use Rattle.explained.proofs.comparing.refusal_among.Given as goal

abbrev pub invariant-loop-finding : goal.invariant-loop-finding
invariant-loop-finding l =
    least_of l.least (least (drop l.finding-index l.found)) ≡ least l.found
