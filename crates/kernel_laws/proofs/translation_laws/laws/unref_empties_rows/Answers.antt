use Rattle.kernel_laws.proofs.Shut.{unref_empties_lem}
use Rattle.kernel_laws.proofs.translation_laws.laws.unref_empties_rows.Goals as goal

pub returns : goal.returns
returns c = unref_empties_lem
