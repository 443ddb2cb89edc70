use Rattle.std.proofs.Common.{◌≡◌, length, take}
use Rattle.arena_state.specs.Restored.{given}
use Rattle.arena_state.proofs.restores.trees.link_all.Given as goal

abbrev pub invariant-loop-id : goal.invariant-loop-id
invariant-loop-id l =
    (l.draft.lists ≡ given l.fn.draft.lists l.container (take l.id-index l.ids))
    × (length l.draft.cells ≡ length l.fn.draft.cells)
