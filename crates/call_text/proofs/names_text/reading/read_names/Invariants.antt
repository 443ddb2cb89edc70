use Rattle.std.proofs.Common.{length}
use Rattle.call_text.proofs.NameProgress.{Progress}
use Rattle.call_text.proofs.names_text.reading.read_names.Given as goal

abbrev pub invariant-loop-rest : goal.invariant-loop-rest
invariant-loop-rest l = Progress l.bytes l.known.keys l.names.items l.line l.rest

abbrev pub decreases-loop-rest : goal.decreases-loop-rest
decreases-loop-rest l = length l.rest
