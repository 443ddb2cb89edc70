use Rattle.std.proofs.Common.{◌≡◌, ◌++◌, take, drop}
use Rattle.explained.specs.Failing.{put}
use Rattle.explained.proofs.failing.put.Given as goal

abbrev pub invariant-loop-place : goal.invariant-loop-place
invariant-loop-place l =
    (put l.failure l.fn.found.items
    ≡ take l.place l.found.items ++ put l.failure (drop l.place l.found.items))
    × (l.found.items ≡ l.fn.found.items)
