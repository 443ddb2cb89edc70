use Rattle.kernel_laws.proofs.Shut.{shut_lem}
use Rattle.kernel_laws.proofs.translation_laws.laws.shut_rows_are_empty.Goals as goal

pub returns : goal.returns
returns c = shut_lem
