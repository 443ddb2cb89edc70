use Rattle.checkpoints.proofs.ApartLaws.{restored_apart}
use Rattle.checkpoints.proofs.laws.restored_mappings_are_apart.Goals as goal

pub returns : goal.returns
returns c = restored_apart
