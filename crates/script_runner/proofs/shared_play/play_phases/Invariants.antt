-- the phases so far, and what those to come leave
use Rattle.std.proofs.Common.{map}
use Rattle.script_runner.specs.Shared.{unplayed}
use Rattle.script_runner.proofs.SharedLaws.{PhasesSoFar}
use Rattle.script_runner.proofs.shared_play.play_phases.Given as goal

abbrev pub invariant-loop-phase : goal.invariant-loop-phase
invariant-loop-phase g l =
    PhasesSoFar g.B.Naming.boot.limits g.B.Naming.boot.seats l.script l.fn.known (map unplayed l.workers.keys) l.phase-index l.known
    l.played.items
