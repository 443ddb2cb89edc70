use Rattle.std.proofs.Common.{arith}
use Rattle.syscall_core.proofs.stores.KeptStateStore.bytes_from.Goals as goal

pub returns-clause-looks : goal.returns-clause-looks
returns-clause-looks c = omega (arith, c.bytes_from.ensures.probes)
