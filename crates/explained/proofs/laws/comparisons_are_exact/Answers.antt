use Rattle.explained.proofs.Agreeing.{agrees_where_none_fails, sides_are_exact}
use Rattle.explained.proofs.laws.comparisons_are_exact.Goals as goal

pub returns-clause-agrees : goal.returns-clause-agrees
returns-clause-agrees c = agrees_where_none_fails

pub returns-clause-exact : goal.returns-clause-exact
returns-clause-exact c = sides_are_exact
