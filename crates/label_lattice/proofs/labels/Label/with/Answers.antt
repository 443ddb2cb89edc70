use Rattle.std.proofs.Common.{subst}
use Rattle.label_lattice.specs.Label.{IsStored}
use Rattle.label_lattice.proofs.PlacedLaw.{with-full, with-levels, with-stored}
use Rattle.label_lattice.proofs.labels.Label.with.Goals as goal

pub returns-clause-levels : goal.returns-clause-levels
returns-clause-levels c =
    with-levels c.args.self.now (record { category = c.args.category; level = c.args.level }) _
    (subst IsStored c.self.view_is c.self.invariant.0) c.placed.ensures

pub returns-clause-stored : goal.returns-clause-stored
returns-clause-stored c =
    with-stored c.args.self.now (record { category = c.args.category; level = c.args.level }) _
    (subst IsStored c.self.view_is c.self.invariant.0) c.placed.ensures

pub returns-clause-full : goal.returns-clause-full
returns-clause-full c =
    with-full c.args.self.now (record { category = c.args.category; level = c.args.level }) _
    (subst IsStored c.self.view_is c.self.invariant.0) c.placed.ensures
