use Rattle.std.proofs.Common.{◌≡◌, ℕ, List, ◌++◌, length}
use Rattle.kernel_rules.specs.declared.objects.Object.{Object}
use Rattle.arena_state.specs.Restored.{laid}
use Rattle.arena_state.proofs.restores.trees.lay_objects.Given as goal

-- the first objects are laid down, and the others are to come
abbrev pub invariant-loop-id : goal.invariant-loop-id
invariant-loop-id l =
    (done : List (ℕ × Object)) × (l.draft.lists ≡ laid done) × (done ++ l.id-iterator ≡ l.objects.entries)
    × (length l.draft.cells ≡ l.pool)
