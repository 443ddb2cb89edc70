use Rattle.kernel_laws.proofs.Frames.{recorded_by_path}
use Rattle.kernel_laws.proofs.laws.recorded_are_live.Goals as goal

pub returns : goal.returns
returns c = recorded_by_path
