use Rattle.std.proofs.Common.{◌≡◌}
use Rattle.std.specs.List.{list_all}
use Rattle.checkpoints.specs.Restorable.{is_starless}
use Rattle.plain_core.proofs.restoring.tests_of_records.are_starless.Given as goal

abbrev pub invariant-loop-object : goal.invariant-loop-object
invariant-loop-object l =
    list_all (λ e. is_starless e.1) l.records.objects.entries
    ≡ list_all (λ e. is_starless e.1) l.object-iterator
