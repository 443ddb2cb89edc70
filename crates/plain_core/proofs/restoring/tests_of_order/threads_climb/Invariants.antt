use Rattle.std.proofs.Common.{◌≡◌, drop}
use Rattle.checkpoints.specs.declared.checkpoints.NextNumber.{NextNumber}
use Rattle.plain_core.specs.Climbs.{climbs}
use Rattle.plain_core.proofs.restoring.tests_of_order.threads_climb.Given as goal

abbrev pub invariant-loop-number : goal.invariant-loop-number
invariant-loop-number l =
    climbs (λ (x : NextNumber). x.thread) l.fn.after l.next
    ≡ climbs (λ (x : NextNumber). x.thread) l.last (drop l.number-index l.next)
