use Rattle.worlds.proofs.Staying.{stays_hidden}
use Rattle.worlds.proofs.laws.stays_hidden.Goals as goal

pub returns : goal.returns
returns c = stays_hidden
