use Rattle.script_runner.proofs.Plays.{turns_ok}
use Rattle.script_runner.proofs.play.play_turns.Goals as goal

pub returns-clause-turns : goal.returns-clause-turns
returns-clause-turns c =
    turns_ok c.args.limits.now c.args.script.now c.args.workers.now.keys c.seats_for-seats.result c.len.result c.play_alone.result
    c.requires c.len.ensures.len c.seats_for-seats.ensures.seats c.play_alone.ensures.text c.play_alone.ensures.events c.play_alone.ensures.names
    c.play_alone.ensures.reads
