use Rattle.std.proofs.Common.{◌≡◌, ◌-◌, ◌++◌, drop}
use Rattle.std.specs.List.{flat_map}
use Rattle.shown_dumps.specs.Dots.{dot_from}
use Rattle.plain_state.specs.StateOf.{state_of}
use Rattle.shown_dumps.specs.TreePlaces.{below}
use Rattle.shown_dumps.proofs.dot.dots.+put_dot.Given as goal

abbrev pub decreases-put_dot : goal.decreases-put_dot
decreases-put_dot l = l.levels

abbrev pub invariant-loop-id : goal.invariant-loop-id
invariant-loop-id l =
    l.out.items
    ++ flat_map (λ id. dot_from l.look.names.now (state_of l.state) l.look.reached.now (l.levels - 1) (below l.place id)) (drop l.id-index l.id-items)
    ≡ l.initial.out.items
    ++ flat_map (λ id. dot_from l.look.names.now (state_of l.state) l.look.reached.now (l.levels - 1) (below l.place id)) l.id-items
