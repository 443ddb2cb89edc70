-- the workers so far have settled
use Rattle.std.specs.List.{AllZip}
use Rattle.script_runner.specs.Shared.{Settles}
use Rattle.script_runner.proofs.shared_play.settled.Given as goal

abbrev pub invariant-loop-worker : goal.invariant-loop-worker
invariant-loop-worker g l = AllZip (Settles l.notes) l.yielded l.settled.items
