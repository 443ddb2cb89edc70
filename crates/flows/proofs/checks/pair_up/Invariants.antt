use Rattle.std.proofs.Common.{◌≡◌, ◌++◌, drop}
use Rattle.flows.specs.Carriers.{paired}
use Rattle.flows.proofs.checks.pair_up.Given as goal

abbrev pub invariant-loop-id : goal.invariant-loop-id
invariant-loop-id l =
    l.pairs.items ++ paired l.start (drop l.id-index l.ids) ≡ l.fn.pairs.items ++ paired l.start l.ids
