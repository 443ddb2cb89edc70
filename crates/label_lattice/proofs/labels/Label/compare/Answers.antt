use Rattle.label_lattice.proofs.WaysLemmas.{both_ways}
use Rattle.label_lattice.proofs.labels.Label.compare.Goals as goal

pub returns-clause-forth : goal.returns-clause-forth
returns-clause-forth c =
    (both_ways c.args.self.now c.args.other.now _ c.held-held.ensures.bits c.held-held.ensures.few).0

pub returns-clause-back : goal.returns-clause-back
returns-clause-back c =
    (both_ways c.args.self.now c.args.other.now _ c.held-held.ensures.bits c.held-held.ensures.few).1
