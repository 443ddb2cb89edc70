use Rattle.dump_text.proofs.KernelDumps.{legal_dump}
use Rattle.dump_text.proofs.laws.legal_is_dump.Goals as goal

pub returns : goal.returns
returns c = legal_dump
