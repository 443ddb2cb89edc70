use Rattle.std.proofs.Common.{◌≡◌, drop}
use Rattle.flow_rules.specs.Touched.{covering}
use Rattle.flows.proofs.looks.covering.Given as goal

abbrev pub invariant-loop-slot : goal.invariant-loop-slot
invariant-loop-slot l = covering l.page l.slots ≡ covering l.page (drop l.slot-index l.slots)
