use Rattle.std.proofs.Common.{rules, ◌≡◌, false}
use Rattle.script_runner.specs.Workers.{take_turns}
use Rattle.script_runner.proofs.Plays.{no_turns}
use Rattle.script_runner.proofs.play.play_all.Goals as goal

pub returns-then-not-turns-clause-turns : goal.returns-then-not-turns-clause-turns
returns-then-not-turns-clause-turns g c =
    let none : take_turns c.args.script.now ≡ false = search rules in
    no_turns c.args.limits.now c.args.script.now c.play_seated.result none
