use Rattle.std.proofs.Common.{length}
use Rattle.dump_text.proofs.whole.+place.Given as goal

abbrev pub decreases-place : goal.decreases-place
decreases-place l = length l.labels.now
