use Rattle.std.proofs.Common.{◌-◌}
use Rattle.label_intern.proofs.SearchLemmas.{IsHalved}
use Rattle.label_intern.proofs.search.seek.Given as goal

abbrev pub invariant-loop-low : goal.invariant-loop-low
invariant-loop-low l = IsHalved l.slots l.listed l.label l.initial.meter l.meter l.low l.high

abbrev pub decreases-loop-low : goal.decreases-loop-low
decreases-loop-low l = l.high - l.low
