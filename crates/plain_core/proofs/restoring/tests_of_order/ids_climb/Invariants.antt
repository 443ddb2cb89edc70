use Rattle.std.proofs.Common.{◌≡◌, drop}
use Rattle.checkpoints.specs.declared.checkpoints.Recorded.{Recorded}
use Rattle.plain_core.specs.Climbs.{climbs}
use Rattle.plain_core.proofs.restoring.tests_of_order.ids_climb.Given as goal

abbrev pub invariant-loop-recorded : goal.invariant-loop-recorded
invariant-loop-recorded l =
    climbs (λ (x : Recorded). x.id) l.fn.after l.objects
    ≡ climbs (λ (x : Recorded). x.id) l.last (drop l.recorded-index l.objects)
