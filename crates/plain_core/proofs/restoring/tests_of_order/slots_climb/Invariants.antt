use Rattle.std.proofs.Common.{◌≡◌, drop}
use Rattle.checkpoints.specs.declared.slot_lists.FilledSlot.{FilledSlot}
use Rattle.plain_core.specs.Climbs.{climbs}
use Rattle.plain_core.proofs.restoring.tests_of_order.slots_climb.Given as goal

abbrev pub invariant-loop-fill : goal.invariant-loop-fill
invariant-loop-fill l =
    climbs (λ (x : FilledSlot). x.slot) l.after l.filled
    ≡ climbs (λ (x : FilledSlot). x.slot) l.last (drop l.fill-index l.filled)
