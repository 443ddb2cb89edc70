use Rattle.std.proofs.Common.{length}
use Rattle.plain_core.proofs.restoring.building.+slots_of.Given as goal

abbrev pub decreases-slots_of : goal.decreases-slots_of
decreases-slots_of l = length l.filled.now
