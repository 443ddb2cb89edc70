use Rattle.std.proofs.Common.{◌≡◌}
use Rattle.std.specs.List.{list_any}
use Rattle.kernel_rules.specs.Scratch.{ids_of}
use Rattle.plain_state.specs.StateOf.{state_of}
use Rattle.shown_dumps.specs.Deleting.{may_unref, may_delete}
use Rattle.shown_dumps.proofs.tree.deleting.may_delete.Given as goal

abbrev pub invariant-loop-id : goal.invariant-loop-id
invariant-loop-id l =
    list_any (λ c. may_unref (state_of l.state) l.thread (record { container = c; object = l.object })) (ids_of l.id-iterator)
    ≡ may_delete (state_of l.state) l.thread l.object
