use Rattle.std.proofs.Common.{length}
use Rattle.plain_core.proofs.restoring.tests_of_names.+are_mapped_given.Given as goal

abbrev pub decreases-are_mapped_given : goal.decreases-are_mapped_given
decreases-are_mapped_given l = length l.slots.now
