use Rattle.kernel_laws.proofs.Plain.{plain_lem}
use Rattle.kernel_laws.proofs.translation_laws.laws.plain_keeps_rows.Goals as goal

pub returns : goal.returns
returns c = plain_lem
