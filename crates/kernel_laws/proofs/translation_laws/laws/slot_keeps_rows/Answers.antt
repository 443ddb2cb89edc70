use Rattle.kernel_laws.proofs.Slots.{slot_lem}
use Rattle.kernel_laws.proofs.translation_laws.laws.slot_keeps_rows.Goals as goal

pub returns : goal.returns
returns c = slot_lem
