use Rattle.worlds.proofs.Counting.{counted_alike}
use Rattle.worlds.proofs.laws.counted_steps_stay_alike.Goals as goal

pub returns : goal.returns
returns c = counted_alike
