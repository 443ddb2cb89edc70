use Rattle.std.proofs.Common.{◌≡◌, take}
use Rattle.kept_events.proofs.events.events_of.Given as goal

abbrev pub invariant-loop-place : goal.invariant-loop-place
invariant-loop-place l = l.events.items ≡ take l.place l.kept
