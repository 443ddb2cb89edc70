use Rattle.checkpoints.proofs.StartLaws.{later_legal}
use Rattle.checkpoints.proofs.laws.later_are_legal.Goals as goal

pub returns : goal.returns
returns c = later_legal
