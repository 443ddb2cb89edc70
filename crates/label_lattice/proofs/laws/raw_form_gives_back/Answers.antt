use Rattle.label_lattice.proofs.RawLemmas.{raw_of-good, raw_of-stored}
use Rattle.label_lattice.proofs.laws.raw_form_gives_back.Goals as goal

pub returns-clause-good : goal.returns-clause-good
returns-clause-good c = raw_of-good

pub returns-clause-stored : goal.returns-clause-stored
returns-clause-stored c = raw_of-stored
