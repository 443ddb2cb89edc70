use Rattle.published_copy.proofs.Shares.{sees}
use Rattle.published_copy.proofs.read_handles.ReadHandle.read.Goals as goal

pub enter_as-requires : goal.enter_as-requires
enter_as-requires g c = sees _ _
