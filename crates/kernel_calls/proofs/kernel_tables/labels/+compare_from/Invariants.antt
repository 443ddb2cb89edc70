use Rattle.std.proofs.Common.{length}
use Rattle.kernel_calls.proofs.kernel_tables.labels.+compare_from.Given as goal

abbrev pub decreases-compare_from : goal.decreases-compare_from
decreases-compare_from l = length l.labels.now
