-- the run of the phases so far, and what the phases to come leave
use Rattle.std.proofs.Common.{drop}
use Rattle.script_rules.specs.Run.{run_from, start}
use Rattle.script_runner.proofs.PhaseLaws.{SoFar}
use Rattle.script_runner.proofs.lone_play.play_phases.Given as goal

abbrev pub invariant-loop-phase : goal.invariant-loop-phase
invariant-loop-phase g l =
    SoFar g.B.Naming.boot.limits g.B.Naming.boot.seats l.workers.keys l.player.desk l.player.names l.played.items
    (drop l.phase-index l.script) (run_from g.B.Naming.boot.limits g.B.Naming.boot.seats start l.script)
