-- what is known once the rest of the workers' names are
use Rattle.std.proofs.Common.{◌≡◌, drop}
use Rattle.script_runner.specs.Shared.{all_known}
use Rattle.script_runner.proofs.shared_play.bind_all.Given as goal

abbrev pub invariant-loop-worker : goal.invariant-loop-worker
invariant-loop-worker g l = all_known (drop l.worker-index l.workers) l.names ≡ all_known l.workers l.fn.names
