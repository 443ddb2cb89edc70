use Rattle.explained.proofs.Exact.{holds_where_none_fails}
use Rattle.explained.proofs.laws.holds_where_none_fails.Goals as goal

pub returns : goal.returns
returns c = holds_where_none_fails
