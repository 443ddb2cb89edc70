use Rattle.kernel_laws.proofs.Lists.{unref_lem}
use Rattle.kernel_laws.proofs.translation_laws.laws.unref_keeps_rows.Goals as goal

pub returns : goal.returns
returns c = unref_lem
