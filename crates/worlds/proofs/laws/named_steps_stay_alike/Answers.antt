use Rattle.worlds.proofs.Naming.{named_alike}
use Rattle.worlds.proofs.laws.named_steps_stay_alike.Goals as goal

pub returns : goal.returns
returns c = named_alike
