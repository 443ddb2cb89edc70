use Rattle.explained.proofs.Rowed.{least_is_the_refusal, least_is_the_query_refusal}
use Rattle.explained.proofs.laws.least_is_the_refusal.Goals as goal

pub returns-clause-calls : goal.returns-clause-calls
returns-clause-calls c = least_is_the_refusal

pub returns-clause-queries : goal.returns-clause-queries
returns-clause-queries c = least_is_the_query_refusal
