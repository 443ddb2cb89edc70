use Rattle.std.proofs.Common.{◌≡◌, drop}
use Rattle.flows.specs.Carriers.{meets}
use Rattle.flows.proofs.carriers.meets.Given as goal

abbrev pub invariant-loop-id : goal.invariant-loop-id
invariant-loop-id l =
    meets l.start l.carriers l.ids ≡ meets l.start l.carriers (drop l.id-index l.ids)
