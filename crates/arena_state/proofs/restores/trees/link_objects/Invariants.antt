use Rattle.std.proofs.Common.{◌≡◌, ℕ, List, ◌++◌, length}
use Rattle.kernel_rules.specs.State.{lists_of}
use Rattle.kernel_rules.specs.declared.objects.Object.{Object}
use Rattle.arena_state.specs.Restored.{bare}
use Rattle.arena_state.proofs.restores.trees.link_objects.Given as goal

-- the first objects list what they list, and the others nothing yet
abbrev pub invariant-loop-id : goal.invariant-loop-id
invariant-loop-id l =
    (done : List (ℕ × Object)) × (l.draft.lists ≡ lists_of done ++ bare l.id-iterator)
    × (done ++ l.id-iterator ≡ l.records.objects.entries) × (length l.draft.cells ≡ length l.fn.draft.cells)
