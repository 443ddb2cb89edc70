use Rattle.kernel_laws.proofs.Rises.{labels_rise}
use Rattle.kernel_laws.proofs.laws.labels_rise.Goals as goal

pub returns : goal.returns
returns c = labels_rise
