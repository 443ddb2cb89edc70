use Rattle.std.proofs.Common.{◌≡◌, [], drop}
use Rattle.flows.specs.Carriers.{reached}
use Rattle.flows.proofs.carriers.reached.Given as goal

abbrev pub invariant-loop-touch : goal.invariant-loop-touch
invariant-loop-touch l =
    reached l.start l.carriers.items l.found.items (drop l.touch-index l.touches)
    ≡ reached l.start [] [] l.touches
