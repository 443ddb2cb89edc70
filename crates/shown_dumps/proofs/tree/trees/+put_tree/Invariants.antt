use Rattle.std.proofs.Common.{◌≡◌, ◌-◌, ◌++◌, drop}
use Rattle.std.specs.List.{flat_map}
use Rattle.plain_state.specs.StateOf.{state_of}
use Rattle.shown_dumps.specs.TreePlaces.{below}
use Rattle.shown_dumps.specs.Trees.{tree_from}
use Rattle.shown_dumps.proofs.tree.trees.+put_tree.Given as goal

abbrev pub decreases-put_tree : goal.decreases-put_tree
decreases-put_tree l = l.levels

abbrev pub invariant-loop-id : goal.invariant-loop-id
invariant-loop-id l =
    l.out.items ++ flat_map (λ id. tree_from l.look.names.now l.look.asked (state_of l.state) (l.levels - 1) (below l.place id)) (drop l.id-index l.id-items)
    ≡ l.initial.out.items ++ flat_map (λ id. tree_from l.look.names.now l.look.asked (state_of l.state) (l.levels - 1) (below l.place id)) l.id-items
