use Rattle.checkpoints.proofs.NamesLaws.{restored_named}
use Rattle.checkpoints.proofs.laws.restored_names_rightly.Goals as goal

pub returns : goal.returns
returns c = restored_named
