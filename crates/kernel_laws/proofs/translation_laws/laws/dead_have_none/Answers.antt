use Rattle.kernel_laws.proofs.Dead.{dead_have_none_lem}
use Rattle.kernel_laws.proofs.translation_laws.laws.dead_have_none.Goals as goal

pub returns : goal.returns
returns c = dead_have_none_lem
