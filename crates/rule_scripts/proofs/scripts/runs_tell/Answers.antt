use Rattle.rule_scripts.proofs.Runs.{every}
use Rattle.rule_scripts.proofs.scripts.runs_tell.Goals as goal

pub returns : goal.returns
returns c = every
