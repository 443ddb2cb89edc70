use Rattle.std.proofs.Common.{◌≡◌, drop}
use Rattle.shown_dumps.specs.Places.{place_from}
use Rattle.shown_dumps.proofs.why.places.place_from.Given as goal

abbrev pub invariant-loop-number : goal.invariant-loop-number
invariant-loop-number l =
    place_from l.number (drop l.number l.events) l.rest l.left ≡ place_from 0 l.events l.reads l.fn.skipped
