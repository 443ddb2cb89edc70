use Rattle.std.proofs.Common.{length}
use Rattle.plain_core.proofs.restoring.tests_of_objects.+lie_apart.Given as goal

abbrev pub decreases-lie_apart : goal.decreases-lie_apart
decreases-lie_apart l = length l.slots.now
