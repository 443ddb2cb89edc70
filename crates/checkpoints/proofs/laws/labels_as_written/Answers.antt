use Rattle.checkpoints.proofs.WrittenLaws.{written_stored, stored_written}
use Rattle.checkpoints.proofs.laws.labels_as_written.Goals as goal

pub returns : goal.returns
returns c = λ raw. (written_stored raw, stored_written raw)
