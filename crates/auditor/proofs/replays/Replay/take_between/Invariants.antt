use Rattle.std.proofs.Common.{take}
use Rattle.kernel_rules.specs.History.{Start}
use Rattle.auditor.specs.Replay.{TakesAll}
use Rattle.auditor.proofs.replays.Replay.take_between.Given as goal

abbrev pub invariant-loop-place : goal.invariant-loop-place
invariant-loop-place l =
    (start : Start) → TakesAll start (take l.from l.events) l.fn.self → TakesAll start (take l.place l.events) l.self
