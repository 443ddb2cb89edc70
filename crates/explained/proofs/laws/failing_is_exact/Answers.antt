use Rattle.explained.proofs.Exact.{failing_is_exact}
use Rattle.explained.proofs.laws.failing_is_exact.Goals as goal

pub returns : goal.returns
returns c = failing_is_exact
