use Rattle.kernel_laws.proofs.Slots.{immutable_lem}
use Rattle.kernel_laws.proofs.translation_laws.laws.immutable_takes_writing.Goals as goal

pub returns : goal.returns
returns c = immutable_lem
