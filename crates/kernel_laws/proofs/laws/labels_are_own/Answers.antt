use Rattle.kernel_laws.proofs.Labels.{labels_own}
use Rattle.kernel_laws.proofs.laws.labels_are_own.Goals as goal

pub returns : goal.returns
returns c = labels_own
