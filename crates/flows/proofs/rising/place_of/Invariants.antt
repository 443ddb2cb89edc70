use Rattle.std.proofs.Common.{◌≡◌, ◌+◌, drop}
use Rattle.flows.specs.Places.{place_in}
use Rattle.flows.proofs.rising.place_of.Given as goal

abbrev pub invariant-loop-i : goal.invariant-loop-i
invariant-loop-i l = place_in l.id l.ids ≡ l.i + place_in l.id (drop l.i l.ids)
