use Rattle.kernel_laws.proofs.Boot.{booted_lem}
use Rattle.kernel_laws.proofs.translation_laws.laws.boot_names_rightly.Goals as goal

pub returns : goal.returns
returns c = booted_lem
