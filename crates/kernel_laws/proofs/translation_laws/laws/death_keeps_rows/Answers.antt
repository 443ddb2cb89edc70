use Rattle.kernel_laws.proofs.Dead.{death_keeps_lem}
use Rattle.kernel_laws.proofs.translation_laws.laws.death_keeps_rows.Goals as goal

pub returns : goal.returns
returns c = death_keeps_lem
