use Rattle.base.proofs.LiveLaw.{live_by_path_lem}
use Rattle.base.proofs.liveness.live_by_path.Goals as goal

pub returns : goal.returns
returns c = live_by_path_lem
