use Rattle.script_runner.proofs.NumberLaws.{distinct_as_bytes}
use Rattle.script_runner.proofs.lone_play.play_phases.Goals as goal

pub play_phase-requires : goal.play_phase-requires
play_phase-requires g c = distinct_as_bytes c.args.workers.now.keys c.len.ensures.unique
