use Rattle.std.proofs.Common.{refl}
use Rattle.syscall_core.specs.Kernel.{kernel_state}
use Rattle.shared_calls.proofs.BeginningLaws.{journal_none}
use Rattle.shared_calls.proofs.journals.empty_journal.Goals as goal

pub returns : goal.returns
returns c =
    journal_none (kernel_state c.args.kernel) (record { kernel = c.args.kernel; meter = c.in_ok-meter.meter; counts = c.new-counts.result }) refl c.new-counts.ensures.empty
