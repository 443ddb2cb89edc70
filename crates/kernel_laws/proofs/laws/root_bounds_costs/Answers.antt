use Rattle.kernel_laws.proofs.Bounds.{root_bounds}
use Rattle.kernel_laws.proofs.laws.root_bounds_costs.Goals as goal

pub returns : goal.returns
returns c = λ s root wf there. (root_bounds s root wf there).0
