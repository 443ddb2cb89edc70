use Rattle.call_text.proofs.NameWriting.{read_again}
use Rattle.call_text.proofs.names_text.reading.written_is_read.Goals as goal

pub returns : goal.returns
returns c = read_again
