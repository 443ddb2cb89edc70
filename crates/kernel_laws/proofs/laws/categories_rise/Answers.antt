use Rattle.kernel_laws.proofs.Given.{categories_rise}
use Rattle.kernel_laws.proofs.laws.categories_rise.Goals as goal

pub returns : goal.returns
returns c = categories_rise
