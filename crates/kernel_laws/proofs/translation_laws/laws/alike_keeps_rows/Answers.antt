use Rattle.kernel_laws.proofs.Put.{alike_lem}
use Rattle.kernel_laws.proofs.translation_laws.laws.alike_keeps_rows.Goals as goal

pub returns : goal.returns
returns c = alike_lem
