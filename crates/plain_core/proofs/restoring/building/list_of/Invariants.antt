use Rattle.std.proofs.Common.{◌≡◌, take}
use Rattle.plain_core.proofs.restoring.building.list_of.Given as goal

abbrev pub invariant-loop-id : goal.invariant-loop-id
invariant-loop-id l = l.list ≡ take l.id-index l.ids
