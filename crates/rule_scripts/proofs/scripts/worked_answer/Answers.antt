use Rattle.rule_scripts.proofs.Worked.{every}
use Rattle.rule_scripts.proofs.scripts.worked_answer.Goals as goal

pub returns : goal.returns
returns c = every
