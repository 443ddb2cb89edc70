use Rattle.worlds.proofs.Quietness.{quiet_told}
use Rattle.worlds.proofs.laws.nothing_is_told_quietly.Goals as goal

pub returns : goal.returns
returns c = quiet_told
