use Rattle.kernel_laws.proofs.Touched.{touched_lem}
use Rattle.kernel_laws.proofs.translation_laws.laws.calls_keep_rows.Goals as goal

pub returns : goal.returns
returns c = touched_lem
