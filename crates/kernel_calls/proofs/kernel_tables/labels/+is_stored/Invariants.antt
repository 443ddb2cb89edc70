use Rattle.std.proofs.Common.{length}
use Rattle.kernel_calls.proofs.kernel_tables.labels.+is_stored.Given as goal

abbrev pub decreases-is_stored : goal.decreases-is_stored
decreases-is_stored l = length l.labels.now
