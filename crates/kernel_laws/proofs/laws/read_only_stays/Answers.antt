use Rattle.kernel_laws.proofs.ReadOnly.{read_only}
use Rattle.kernel_laws.proofs.laws.read_only_stays.Goals as goal

pub returns : goal.returns
returns c = read_only
