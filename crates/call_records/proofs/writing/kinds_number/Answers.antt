use Rattle.call_records.proofs.WordLemmas.{kinds_back}
use Rattle.call_records.proofs.writing.kinds_number.Goals as goal

pub returns : goal.returns
returns c = kinds_back c.args.kinds _ cc
