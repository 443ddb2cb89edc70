use Rattle.worlds.proofs.Queries.{queries_alike}
use Rattle.worlds.proofs.laws.queries_answer_alike.Goals as goal

pub returns : goal.returns
returns c = queries_alike
