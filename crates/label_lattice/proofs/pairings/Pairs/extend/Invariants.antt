use Rattle.std.proofs.Common.{◌≡◌, ◌++◌, take}
use Rattle.label_lattice.proofs.pairings.Pairs.extend.Given as goal

abbrev pub invariant-loop-pair : goal.invariant-loop-pair
invariant-loop-pair g l = l.self ≡ l.initial.self ++ take l.pair-index l.pairs
