use Rattle.kernel_laws.proofs.Threads.{labels_lem}
use Rattle.kernel_laws.proofs.translation_laws.laws.label_keeps_rows.Goals as goal

pub returns : goal.returns
returns c = labels_lem
