use Rattle.rule_scripts.proofs.Corners.{every}
use Rattle.rule_scripts.proofs.scripts.corners_answer.Goals as goal

pub returns : goal.returns
returns c = every
