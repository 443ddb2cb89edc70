use Rattle.kernel_laws.proofs.Shown.{segment_lem}
use Rattle.kernel_laws.proofs.translation_laws.laws.rows_show_segments.Goals as goal

pub returns : goal.returns
returns c = segment_lem
