use Rattle.std.proofs.Common.{arith}
use Rattle.syscall_core.proofs.RowLaws.{few_probes}
use Rattle.syscall_core.proofs.stores.KeptStateStore.find.Goals as goal

pub returns-clause-looks : goal.returns-clause-looks
returns-clause-looks c = omega (arith, c.find.ensures.probes, few_probes c.args.self.now c.few.ensures)
