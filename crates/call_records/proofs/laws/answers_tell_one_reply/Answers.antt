use Rattle.call_records.proofs.ToldLaw.{one_reply}
use Rattle.call_records.proofs.laws.answers_tell_one_reply.Goals as goal

pub returns : goal.returns
returns c = one_reply
