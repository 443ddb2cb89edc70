use Rattle.std.proofs.Common.{arith}
use Rattle.syscall_core.proofs.RowLaws.{few_probes}
use Rattle.syscall_core.proofs.kernel.Kernel.is_thread.Goals as goal

pub returns-clause-probes : goal.returns-clause-probes
returns-clause-probes c = omega (arith, c.is_live_kind.ensures.probes, few_probes c.args.self.now.kept c.few.ensures)
