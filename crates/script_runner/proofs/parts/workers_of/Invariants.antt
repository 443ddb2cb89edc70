-- the workers of the phases so far
use Rattle.std.proofs.Common.{◌≡◌, take}
use Rattle.script_rules.specs.Workers.{lines_in, workers_of}
use Rattle.script_runner.proofs.parts.workers_of.Given as goal

abbrev pub invariant-loop-phase : goal.invariant-loop-phase
invariant-loop-phase l = l.names.keys ≡ workers_of (lines_in (take l.phase-index l.script))
