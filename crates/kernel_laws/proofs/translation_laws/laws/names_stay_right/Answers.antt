use Rattle.kernel_laws.proofs.Names.{named_lem}
use Rattle.kernel_laws.proofs.translation_laws.laws.names_stay_right.Goals as goal

pub returns : goal.returns
returns c = named_lem
