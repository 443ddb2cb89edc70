use Rattle.label_lattice.proofs.MadeLemmas.{made_stored, made_placed, made_later}
use Rattle.label_lattice.proofs.laws.made_categories_stay_made.Goals as goal

pub returns-clause-stored : goal.returns-clause-stored
returns-clause-stored c = made_stored

pub returns-clause-placed : goal.returns-clause-placed
returns-clause-placed c = made_placed

pub returns-clause-later : goal.returns-clause-later
returns-clause-later c = made_later
