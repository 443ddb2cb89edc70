use Rattle.label_lattice.proofs.OrderLemmas.{Leq-antisymmetric}
use Rattle.label_lattice.proofs.laws.order_is_partial.Goals as goal

pub returns-clause-antisymmetric : goal.returns-clause-antisymmetric
returns-clause-antisymmetric c = Leq-antisymmetric
