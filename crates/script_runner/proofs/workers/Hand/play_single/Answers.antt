use Rattle.std.proofs.Common.{rules, ◌≡◌, ◌++◌, [], Err, Ok}
use Rattle.call_text.specs.Resolve.{resolved}
use Rattle.call_text.specs.declared.asking.Asked.TheVariants.{Read}
use Rattle.script_runner.specs.Shared.{with_note}
use Rattle.script_runner.specs.Turns.{stand}
use Rattle.script_runner.proofs.SharedLaws.{asked_as, asked_unbound, if_ok}
use Rattle.script_runner.proofs.workers.Hand.play_single.Goals as goal

pub returns-in_ok-tell_unbound-in-Err-clause-asked : goal.returns-in_ok-tell_unbound-in-Err-clause-asked
returns-in_ok-tell_unbound-in-Err-clause-asked g c =
    let is : resolved c.args.line.now.call (c.args.self.now.own ++ c.args.known.now) ≡ Err c.in-Err.name = search rules in
    asked_unbound g.B.Naming.boot.limits c.args.desk.now.thread c.args.known.now c.args.desk.now.events c.args.self.now.own
    c.args.self.now.answers c.tell_unbound.new.self c.args.line.now c.in-Err.name is c.in_ok-tell_unbound-in-Err.ensures.told
    c.in_ok-tell_unbound-in-Err.ensures.reads c.args.desk.now.noted

pub returns-in-Ok-Some-clause-asked : goal.returns-in-Ok-Some-clause-asked
returns-in-Ok-Some-clause-asked g c =
    let is : resolved c.args.line.now.call (c.args.self.now.own ++ c.args.known.now) ≡ Ok (Read c.in-Ok-Some.query) = search rules in
    if_ok c.ask.result
    (λ after. asked_as g.B.Naming.boot.limits c.args.desk.now.thread c.args.known.now
    (with_note c.args.desk.now.noted (stand c.args.desk.now.events c.args.self.now.own [] c.args.self.now.answers))
    (with_note c.ask.new.desk.noted (stand c.ask.new.desk.events c.ask.new.self.own [] c.ask.new.self.answers)) c.args.line.now (Ok (Read c.in-Ok-Some.query)) is
    (after c.args.line.now.binds))
    c.ask.ensures.asked
