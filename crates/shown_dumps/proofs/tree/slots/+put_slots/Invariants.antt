use Rattle.std.proofs.Common.{length}
use Rattle.shown_dumps.proofs.tree.slots.+put_slots.Given as goal

abbrev pub decreases-put_slots : goal.decreases-put_slots
decreases-put_slots l = length l.slots.now
