use Rattle.std.proofs.Common.{length}
use Rattle.call_text.proofs.ReadSoFar.{ReadSoFar}
use Rattle.call_text.proofs.scripts.read_script.Given as goal

abbrev pub invariant-loop-bound : goal.invariant-loop-bound
invariant-loop-bound l = ReadSoFar l.bytes l.bound.keys l.batches.items l.phases.items l.args.items l.lines.items l.count l.rest

abbrev pub decreases-loop-bound : goal.decreases-loop-bound
decreases-loop-bound l = length l.rest
