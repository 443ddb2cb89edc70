use Rattle.std.proofs.Common.{◌≡◌, nat_lt}
use Rattle.std.specs.List.{list_all}
use Rattle.kernel_rules.specs.State.{lists_of}
use Rattle.plain_core.proofs.restoring.keeping.are_given.Given as goal

abbrev pub invariant-loop-id : goal.invariant-loop-id
invariant-loop-id l =
    list_all (λ e. nat_lt e.0 l.records.next_id) (lists_of l.records.objects.entries)
    ≡ list_all (λ e. nat_lt e.0 l.records.next_id) (lists_of l.id-iterator)
