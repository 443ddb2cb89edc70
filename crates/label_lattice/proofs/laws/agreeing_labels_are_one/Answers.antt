use Rattle.label_lattice.proofs.LabelLemmas.{same_labels}
use Rattle.label_lattice.proofs.laws.agreeing_labels_are_one.Goals as goal

pub returns : goal.returns
returns c = same_labels
