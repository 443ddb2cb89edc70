use Rattle.worlds.proofs.Staying.{counts_stay}
use Rattle.worlds.proofs.laws.counts_stay.Goals as goal

pub returns : goal.returns
returns c = counts_stay
