use Rattle.kernel_laws.proofs.Depends.{row_reads_lem}
use Rattle.kernel_laws.proofs.translation_laws.laws.row_reads.Goals as goal

pub returns : goal.returns
returns c = row_reads_lem
