use Rattle.std.proofs.Common.{length}
use Rattle.dump_text.proofs.Progress.{Progress}
use Rattle.dump_text.proofs.dumps.read_dump.Given as goal

abbrev pub invariant-loop-rest : goal.invariant-loop-rest
invariant-loop-rest l = Progress l.bytes l.dump l.place l.count l.rest

abbrev pub decreases-loop-rest : goal.decreases-loop-rest
decreases-loop-rest l = length l.rest
