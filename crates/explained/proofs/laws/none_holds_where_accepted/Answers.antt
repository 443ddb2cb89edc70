use Rattle.explained.proofs.Rowed.{none_holds_where_accepted, none_holds_where_found}
use Rattle.explained.proofs.laws.none_holds_where_accepted.Goals as goal

pub returns-clause-calls : goal.returns-clause-calls
returns-clause-calls c = none_holds_where_accepted

pub returns-clause-queries : goal.returns-clause-queries
returns-clause-queries c = none_holds_where_found
