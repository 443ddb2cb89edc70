use Rattle.rule_scripts.proofs.Hostile.{every}
use Rattle.rule_scripts.proofs.scripts.hostile_answer.Goals as goal

pub returns : goal.returns
returns c = every
