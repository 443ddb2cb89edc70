use Rattle.std.proofs.Common.{sym, ◌∙◌}
use Rattle.memory_calls.proofs.LengthLaws.{unmap_fits}
use Rattle.memory_calls.proofs.spaces.as_unmap.Goals as goal

pub set_slot-requires-clause-slot : goal.set_slot-requires-clause-slot
set_slot-requires-clause-slot g c = unmap_fits _ _ _ _ (sym c.refused_as_unmap.ensures.value ∙ c.in_default.is)
