use Rattle.worlds.proofs.Apartness.{open_stays}
use Rattle.worlds.proofs.laws.open_stays.Goals as goal

pub returns : goal.returns
returns c = open_stays
