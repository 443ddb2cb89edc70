use Rattle.std.proofs.Common.{◌≡◌, drop}
use Rattle.base.specs.Live.{has}
use Rattle.flows.proofs.rising.has.Given as goal

abbrev pub invariant-loop-each : goal.invariant-loop-each
invariant-loop-each l = has l.ids l.id ≡ has (drop l.each-index l.ids) l.id
