use Rattle.std.proofs.Common.{◌≡◌, ℕ, List, ◌++◌}
use Rattle.kernel_rules.specs.declared.objects.Object.{Object}
use Rattle.plain_state.specs.Recorded.{records_state}
use Rattle.arena_state.specs.Restored.{IsFilled}
use Rattle.arena_state.proofs.restores.fills.fill.Given as goal

-- the first objects have their slots
abbrev pub invariant-loop-id : goal.invariant-loop-id
invariant-loop-id l =
    (done : List (ℕ × Object)) × IsFilled (records_state l.records) l.tree.slots done l.holdings
    × (done ++ l.id-iterator ≡ l.records.objects.entries)
