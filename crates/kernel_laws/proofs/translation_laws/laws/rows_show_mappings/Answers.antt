use Rattle.kernel_laws.proofs.Shown.{shown_lem}
use Rattle.kernel_laws.proofs.translation_laws.laws.rows_show_mappings.Goals as goal

pub returns : goal.returns
returns c = shown_lem
