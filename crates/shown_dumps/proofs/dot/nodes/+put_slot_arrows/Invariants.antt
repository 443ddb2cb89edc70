use Rattle.std.proofs.Common.{length}
use Rattle.shown_dumps.proofs.dot.nodes.+put_slot_arrows.Given as goal

abbrev pub decreases-put_slot_arrows : goal.decreases-put_slot_arrows
decreases-put_slot_arrows l = length l.slots.now
