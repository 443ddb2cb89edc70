use Rattle.std.proofs.Common.{◌≡◌}
use Rattle.std.specs.List.{list_all}
use Rattle.plain_state.specs.Recorded.{records_state}
use Rattle.plain_core.specs.Counted.{count_in}
use Rattle.plain_core.specs.Keeping.{is_held}
use Rattle.plain_core.proofs.restoring.keeping.are_held.Given as goal

abbrev pub invariant-loop-id : goal.invariant-loop-id
invariant-loop-id l =
    list_all (λ e. is_held (records_state l.records) (count_in l.counts e.0) e.0 e.1) l.records.objects.entries
    ≡ list_all (λ e. is_held (records_state l.records) (count_in l.counts e.0) e.0 e.1) l.id-iterator
