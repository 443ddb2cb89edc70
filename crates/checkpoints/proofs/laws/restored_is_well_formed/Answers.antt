use Rattle.checkpoints.proofs.Parts.{well_formed}
use Rattle.checkpoints.proofs.laws.restored_is_well_formed.Goals as goal

pub returns : goal.returns
returns c = well_formed
