use Rattle.std.proofs.Common.{◌-◌, length}
use Rattle.containers.proofs.SearchSteps.{IsHalved}
use Rattle.containers.proofs.object_arena.search.search.Given as goal

abbrev pub invariant-loop-low : goal.invariant-loop-low
invariant-loop-low l = IsHalved l.ids l.id (length l.ids) l.low l.middle l.high l.reads

abbrev pub decreases-loop-low : goal.decreases-loop-low
decreases-loop-low l = l.high - l.low
