use Rattle.kernel_laws.proofs.Apart.{mappings_apart}
use Rattle.kernel_laws.proofs.laws.mappings_are_apart.Goals as goal

pub returns : goal.returns
returns c = mappings_apart
