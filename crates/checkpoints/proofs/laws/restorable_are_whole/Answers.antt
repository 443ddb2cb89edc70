use Rattle.checkpoints.proofs.SoundLaws.{restorable_whole}
use Rattle.checkpoints.proofs.laws.restorable_are_whole.Goals as goal

pub returns : goal.returns
returns c = restorable_whole
