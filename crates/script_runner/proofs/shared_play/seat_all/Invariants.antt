-- the workers so far sit
use Rattle.std.specs.List.{AllZip}
use Rattle.script_runner.specs.Shared.{Sits}
use Rattle.script_runner.proofs.shared_play.seat_all.Given as goal

abbrev pub invariant-loop-worker : goal.invariant-loop-worker
invariant-loop-worker g l = AllZip (Sits g.B.Naming.boot.limits g.B.Naming.boot.seats l.known l.phase) l.yielded l.seated.items
