use Rattle.worlds.proofs.Ending.{unrefs_alike}
use Rattle.worlds.proofs.laws.unrefs_stay_alike.Goals as goal

pub returns : goal.returns
returns c = unrefs_alike
