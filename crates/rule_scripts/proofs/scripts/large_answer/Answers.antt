use Rattle.rule_scripts.proofs.Large.{every}
use Rattle.rule_scripts.proofs.scripts.large_answer.Goals as goal

pub returns : goal.returns
returns c = every
