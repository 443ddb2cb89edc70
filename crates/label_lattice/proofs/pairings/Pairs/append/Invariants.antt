use Rattle.std.proofs.Common.{◌≡◌, ◌++◌, take}
use Rattle.label_lattice.proofs.pairings.Pairs.append.Given as goal

abbrev pub invariant-loop-place : goal.invariant-loop-place
invariant-loop-place g l = l.self ≡ l.initial.self ++ take l.place l.others
