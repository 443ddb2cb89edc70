use Rattle.std.proofs.Common.{◌≡◌, length}
use Rattle.call_text.specs.Batch.{lines_open}
use Rattle.call_text.proofs.batches.lines_open.Given as goal

abbrev pub invariant-loop-left : goal.invariant-loop-left
invariant-loop-left l = lines_open l.worker l.batches ≡ lines_open l.worker l.left

abbrev pub decreases-loop-left : goal.decreases-loop-left
decreases-loop-left l = length l.left
