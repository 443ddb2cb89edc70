use Rattle.std.proofs.Common.{length}
use Rattle.check_text.proofs.line_faults.lines.+fault_in_arguments.Given as goal

abbrev pub decreases-fault_in_arguments : goal.decreases-fault_in_arguments
decreases-fault_in_arguments l = length l.kinds.now
