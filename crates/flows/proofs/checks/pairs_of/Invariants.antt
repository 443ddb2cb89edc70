use Rattle.std.proofs.Common.{◌≡◌, ◌++◌, drop}
use Rattle.flows.specs.Carriers.{pairs_of}
use Rattle.flows.proofs.checks.pairs_of.Given as goal

abbrev pub invariant-loop-start : goal.invariant-loop-start
invariant-loop-start l =
    l.pairs.items ++ pairs_of l.touches (drop l.start-index l.starts) ≡ pairs_of l.touches l.starts
