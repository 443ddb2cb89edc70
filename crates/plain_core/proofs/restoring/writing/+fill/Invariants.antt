use Rattle.std.proofs.Common.{length}
use Rattle.plain_core.proofs.restoring.writing.+fill.Given as goal

abbrev pub decreases-fill : goal.decreases-fill
decreases-fill l = length l.slots.now
