-- halves are shorter
use Prim.Native.Nat.{◌+◌, ◌*◌}
use Rattle.script_runner.proofs.shared_play.+together.Given as goal

abbrev pub decreases-played_together : goal.decreases-played_together
decreases-played_together g l = 2 * l.workers.len

abbrev pub decreases-front : goal.decreases-front
decreases-front g l = 2 * l.workers.len + 1

abbrev pub decreases-back : goal.decreases-back
decreases-back g l = 2 * l.others.len + 1
