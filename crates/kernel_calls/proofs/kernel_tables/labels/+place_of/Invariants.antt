use Rattle.std.proofs.Common.{length}
use Rattle.kernel_calls.proofs.kernel_tables.labels.+place_of.Given as goal

abbrev pub decreases-place_of : goal.decreases-place_of
decreases-place_of l = length l.labels.now
