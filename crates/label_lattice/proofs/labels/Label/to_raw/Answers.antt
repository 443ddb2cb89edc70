use Rattle.std.proofs.Common.{subst}
use Rattle.label_lattice.specs.Label.{IsStored}
use Rattle.label_lattice.proofs.labels.Label.to_raw.Goals as goal

pub returns-clause-stored : goal.returns-clause-stored
returns-clause-stored c = subst IsStored c.self.view_is c.self.invariant.0
