use Rattle.std.proofs.Common.{length}
use Rattle.kernel_calls.proofs.kernel_tables.labels.+compare_with.Given as goal

abbrev pub decreases-compare_with : goal.decreases-compare_with
decreases-compare_with l = length l.others.now
