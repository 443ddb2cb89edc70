use Rattle.kernel_laws.proofs.Made.{made_lem}
use Rattle.kernel_laws.proofs.translation_laws.laws.made_keeps_rows.Goals as goal

pub returns : goal.returns
returns c = made_lem
