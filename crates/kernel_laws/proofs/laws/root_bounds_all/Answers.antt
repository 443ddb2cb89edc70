use Rattle.kernel_laws.proofs.Bounds.{root_bounds}
use Rattle.kernel_laws.proofs.laws.root_bounds_all.Goals as goal

pub returns : goal.returns
returns c = λ s root wf there. let bounds = root_bounds s root wf there in (bounds.1, bounds.2)
