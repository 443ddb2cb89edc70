use Rattle.worlds.proofs.Together.{nothing_told}
use Rattle.worlds.proofs.laws.nothing_is_told.Goals as goal

pub returns : goal.returns
returns c = nothing_told
