use Rattle.std.proofs.Common.{length}
use Rattle.plain_core.proofs.restoring.tests_of_names.+name_segments.Given as goal

abbrev pub decreases-name_segments : goal.decreases-name_segments
decreases-name_segments l = length l.slots.now
