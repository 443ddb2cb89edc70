use Rattle.call_records.proofs.CallLemmas.{no_read}
use Rattle.call_records.proofs.laws.writes_are_no_reads.Goals as goal

pub returns : goal.returns
returns c = no_read
