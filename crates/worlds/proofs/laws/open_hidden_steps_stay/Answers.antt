use Rattle.worlds.proofs.Ending.{open_hidden}
use Rattle.worlds.proofs.laws.open_hidden_steps_stay.Goals as goal

pub returns : goal.returns
returns c = open_hidden
