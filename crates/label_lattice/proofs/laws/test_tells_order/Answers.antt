use Rattle.label_lattice.proofs.OrderLemmas.{leq_test-Leq, IsDescribed-levels, IsDescribed-join}
use Rattle.label_lattice.proofs.laws.test_tells_order.Goals as goal

pub returns-clause-tells : goal.returns-clause-tells
returns-clause-tells c = leq_test-Leq

pub returns-clause-labels : goal.returns-clause-labels
returns-clause-labels c = IsDescribed-levels

pub returns-clause-joins : goal.returns-clause-joins
returns-clause-joins c = IsDescribed-join
