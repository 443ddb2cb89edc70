use Rattle.std.proofs.Common.{◌≡◌}
use Rattle.std.specs.List.{list_all}
use Rattle.checkpoints.specs.Restorable.{is_made_below}
use Rattle.plain_core.proofs.restoring.labels.are_made.Given as goal

abbrev pub invariant-loop-object : goal.invariant-loop-object
invariant-loop-object l =
    list_all (λ e. is_made_below l.records.next_category e.1) l.records.objects.entries
    ≡ list_all (λ e. is_made_below l.records.next_category e.1) l.object-iterator
