use Rattle.worlds.proofs.Plainly.{steps_alike}
use Rattle.worlds.proofs.laws.steps_stay_alike.Goals as goal

pub returns : goal.returns
returns c = steps_alike
