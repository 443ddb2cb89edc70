use Rattle.checkpoints.proofs.BootReached.{boot_reached}
use Rattle.checkpoints.proofs.laws.boot_is_sound.Goals as goal

pub returns : goal.returns
returns c = boot_reached
