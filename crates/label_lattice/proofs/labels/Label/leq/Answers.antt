use Rattle.label_lattice.proofs.WaysLemmas.{leq_bit, leq_order}
use Rattle.label_lattice.proofs.labels.Label.leq.Goals as goal

pub returns-clause-order : goal.returns-clause-order
returns-clause-order c =
    leq_order c.args.self.now c.args.other.now _ c.compare.ensures.forth

pub returns-clause-test : goal.returns-clause-test
returns-clause-test c =
    leq_bit c.args.self.now c.args.other.now _ c.compare.ensures.forth
