use Rattle.checkpoints.proofs.SoundLaws.{sound_next}
use Rattle.checkpoints.proofs.laws.sound_stays.Goals as goal

pub returns : goal.returns
returns c = sound_next
