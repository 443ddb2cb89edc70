use Rattle.kernel_laws.proofs.Shut.{stale_lem}
use Rattle.kernel_laws.proofs.translation_laws.laws.stale_rows_are_empty.Goals as goal

pub returns : goal.returns
returns c = stale_lem
