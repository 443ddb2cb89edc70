use Rattle.kernel_laws.proofs.Frames.{linked_stays}
use Rattle.kernel_laws.proofs.laws.linked_stays.Goals as goal

pub returns : goal.returns
returns c = linked_stays
