use Rattle.kernel_laws.proofs.Listed.{labels_listed}
use Rattle.kernel_laws.proofs.laws.labels_are_listed.Goals as goal

pub returns : goal.returns
returns c = labels_listed
