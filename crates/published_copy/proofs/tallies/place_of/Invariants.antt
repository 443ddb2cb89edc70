use Rattle.std.proofs.Common.{◌≡◌, ◌+◌, drop}
use Rattle.published_copy.specs.Tallies.{place_of}
use Rattle.published_copy.proofs.tallies.place_of.Given as goal

abbrev pub invariant-loop-i : goal.invariant-loop-i
invariant-loop-i l = place_of l.thread l.tallies ≡ l.i + place_of l.thread (drop l.i l.tallies)
