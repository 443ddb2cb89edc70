use Rattle.std.proofs.Common.{ap}
use Rattle.script_runner.specs.Desks.{SeatPlace}
use Rattle.script_runner.proofs.LineLaws.{call_made}
use Rattle.script_runner.proofs.workers.Hand.submit.Goals as goal

pub returns-clause-asked : goal.returns-clause-asked
returns-clause-asked g c =
    call_made g.B.Naming.boot.limits c.args.desk.now c.submit.new.self c.args.self.now.own c.tell_made.new.names c.args.self.now.answers
    c.tell_made.new.answers c.args.number c.args.binds c.args.self.now.call c.submit.new.reply c.in_ok-submit.ensures
    c.in_ok-tell_made.ensures.names c.in_ok-tell_made.ensures.told c.in_ok-tell_made.ensures.reads

pub returns-clause-thread : goal.returns-clause-thread
returns-clause-thread g c = ap (λ (p : SeatPlace). p.thread) c.in_ok-submit.ensures.2
