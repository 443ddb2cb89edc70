use Rattle.kernel_laws.proofs.Given.{ids_rise}
use Rattle.kernel_laws.proofs.laws.ids_rise.Goals as goal

pub returns : goal.returns
returns c = ids_rise
