-- what the workers so far leave
use Rattle.std.proofs.Common.{◌≡◌}
use Rattle.script_runner.specs.Reads.{reads_kept, reads_left}
use Rattle.script_runner.proofs.printing.reads_of.Given as goal

abbrev pub invariant-loop-own : goal.invariant-loop-own
invariant-loop-own l = reads_kept l.reads.items ≡ reads_left l.yielded
