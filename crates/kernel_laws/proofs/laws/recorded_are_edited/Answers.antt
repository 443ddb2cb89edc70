use Rattle.kernel_laws.proofs.Frames.{recorded_edited}
use Rattle.kernel_laws.proofs.laws.recorded_are_edited.Goals as goal

pub returns : goal.returns
returns c = recorded_edited
