use Rattle.kernel_laws.proofs.Threads.{spaced_lem}
use Rattle.kernel_laws.proofs.translation_laws.laws.space_keeps_rows.Goals as goal

pub returns : goal.returns
returns c = spaced_lem
