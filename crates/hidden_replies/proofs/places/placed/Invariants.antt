use Rattle.std.proofs.Common.{◌≡◌, ◌++◌, drop}
use Rattle.hidden_replies.specs.Places.{placed, placed_from}
use Rattle.hidden_replies.proofs.places.placed.Given as goal

abbrev pub invariant-loop-number : goal.invariant-loop-number
invariant-loop-number l =
    l.all.items ++ placed_from l.number (drop l.number l.events) l.rest ≡ placed l.events l.reads
