use Rattle.std.proofs.Common.{◌≡◌, ◌+◌, ◌++◌, drop}
use Rattle.hidden_replies.specs.Places.{placed_by}
use Rattle.hidden_replies.proofs.places.place_calls.Given as goal

abbrev pub invariant-loop-answered : goal.invariant-loop-answered
invariant-loop-answered l =
    (l.place ≡ l.answered-index + 1)
    × (l.all.items ++ placed_by l.event l.place l.thread (drop l.answered-index l.calls)
    ≡ l.fn.all.items ++ placed_by l.event 1 l.thread l.calls)
