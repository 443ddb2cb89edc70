use Rattle.worlds.proofs.Quietly.{hidden_stays}
use Rattle.worlds.proofs.laws.hidden_steps_stay.Goals as goal

pub returns : goal.returns
returns c = hidden_stays
