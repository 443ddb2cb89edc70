use Rattle.hidden_replies.proofs.Exact.{one_agreed, one_begun}
use Rattle.hidden_replies.proofs.runs.both.Goals as goal

pub returns-clause-runs : goal.returns-clause-runs
returns-clause-runs c = one_begun _ _ c.requires

pub returns-clause-agreed : goal.returns-clause-agreed
returns-clause-agreed c = λ l. one_agreed l _ c.requires
