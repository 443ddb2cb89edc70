-- the workers so far
use Rattle.std.proofs.Common.{◌≡◌, map, take}
use Rattle.script_runner.specs.Shared.{unplayed}
use Rattle.script_runner.proofs.shared_play.idle.Given as goal

abbrev pub invariant-loop-index : goal.invariant-loop-index
invariant-loop-index g l = l.idle.items ≡ map unplayed (take l.index l.names.keys)
