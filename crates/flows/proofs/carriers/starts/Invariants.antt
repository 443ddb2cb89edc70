use Rattle.std.proofs.Common.{◌≡◌, [], drop}
use Rattle.flows.specs.Carriers.{starts}
use Rattle.flows.proofs.carriers.starts.Given as goal

abbrev pub invariant-loop-touch : goal.invariant-loop-touch
invariant-loop-touch l = starts l.found.items (drop l.touch-index l.touches) ≡ starts [] l.touches
