use Rattle.std.proofs.Common.{List, length}
use Rattle.call_text.specs.declared.batches.Open.{Open}
use Rattle.call_text.specs.Batch.{LeavesOpen}
use Rattle.call_text.proofs.batches.keep_left.Given as goal

abbrev pub invariant-loop-left : goal.invariant-loop-left
invariant-loop-left l =
    (after : List Open) → LeavesOpen l.left l.batches.items after → LeavesOpen l.rest l.fn.batches.items after

abbrev pub decreases-loop-left : goal.decreases-loop-left
decreases-loop-left l = length l.left
