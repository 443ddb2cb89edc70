use Rattle.kernel_calls.proofs.kernel_tables.recomputing.+add_slots.Given as goal

abbrev pub decreases-add_slots : goal.decreases-add_slots
decreases-add_slots g l = l.count
