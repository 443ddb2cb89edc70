-- the notes so far, and those of the rest of the workers
use Rattle.std.proofs.Common.{◌≡◌, ◌++◌, drop}
use Rattle.script_runner.specs.Shared.{notes_of}
use Rattle.script_runner.proofs.shared_play.notes_of.Given as goal

abbrev pub invariant-loop-worker : goal.invariant-loop-worker
invariant-loop-worker g l = l.notes.items ++ notes_of (drop l.worker-index l.workers) ≡ notes_of l.workers
