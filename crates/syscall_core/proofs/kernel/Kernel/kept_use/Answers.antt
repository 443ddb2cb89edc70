use Rattle.std.proofs.Common.{arith}
use Rattle.syscall_core.proofs.RowLaws.{few_probes}
use Rattle.syscall_core.proofs.kernel.Kernel.kept_use.Goals as goal

pub returns-clause-probes : goal.returns-clause-probes
returns-clause-probes c = omega (arith, c.kept_use.ensures.probes, few_probes c.args.self.now.kept c.few.ensures)
