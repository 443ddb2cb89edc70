use Rattle.std.proofs.Common.{◌≡◌, ◌-◌, ◌++◌, drop}
use Rattle.std.specs.List.{flat_map}
use Rattle.shown_dumps.specs.Dots.{arrows_from}
use Rattle.plain_state.specs.StateOf.{state_of}
use Rattle.shown_dumps.specs.TreePlaces.{below}
use Rattle.shown_dumps.proofs.dot.dots.+put_all_arrows.Given as goal

abbrev pub decreases-put_all_arrows : goal.decreases-put_all_arrows
decreases-put_all_arrows l = l.levels

abbrev pub invariant-loop-id : goal.invariant-loop-id
invariant-loop-id l =
    l.out.items
    ++ flat_map (λ id. arrows_from (state_of l.state) (l.levels - 1) (below l.place id)) (drop l.id-index l.id-items)
    ≡ l.initial.out.items
    ++ flat_map (λ id. arrows_from (state_of l.state) (l.levels - 1) (below l.place id)) l.id-items
