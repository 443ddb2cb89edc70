use Rattle.std.proofs.Common.{◌≡◌, ◌+◌, ◌++◌, drop}
use Rattle.hidden_replies.specs.Places.{placed_reads}
use Rattle.hidden_replies.proofs.places.place_reads.Given as goal

abbrev pub invariant-loop-placed : goal.invariant-loop-placed
invariant-loop-placed l =
    (l.place ≡ l.placed-index + 1)
    × (l.all.items ++ placed_reads l.event l.place (drop l.placed-index l.reads)
    ≡ l.fn.all.items ++ placed_reads l.event 1 l.reads)
