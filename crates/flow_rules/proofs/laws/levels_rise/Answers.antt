use Rattle.flow_rules.proofs.Chains.{levels_rise_lem}
use Rattle.flow_rules.proofs.laws.levels_rise.Goals as goal

pub returns : goal.returns
returns c = levels_rise_lem
