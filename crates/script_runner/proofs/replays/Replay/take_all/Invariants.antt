-- what is told with the reads to come
use Rattle.std.proofs.Common.{◌≡◌, drop}
use Rattle.base.specs.declared.ranges.Limits.{Limits}
use Rattle.script_runner.specs.Reads.{told_with, Stands}
use Rattle.script_runner.proofs.replays.Replay.take_all.Given as goal

abbrev pub invariant-loop-read : goal.invariant-loop-read
invariant-loop-read l =
    (limits : Limits) → Stands limits l.events l.fn.self
    → Stands limits l.events l.self × (told_with limits l.first l.events l.self (drop l.read-index l.reads)
    ≡ told_with limits l.first l.events l.fn.self l.reads)
