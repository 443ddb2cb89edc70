use Rattle.std.proofs.Common.{◌≡◌, take}
use Rattle.label_intern.specs.Held.{stored}
use Rattle.label_intern.proofs.places.free_place.Given as goal

abbrev pub invariant-loop-i : goal.invariant-loop-i
invariant-loop-i l = stored (take l.i l.slots) ≡ l.i
