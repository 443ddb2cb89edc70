use Rattle.std.proofs.Common.{rules, ◌≡◌, Err}
use Rattle.script_runner.proofs.LineLaws.{told_unseated}
use Rattle.script_runner.proofs.workers.Hand.play_line.Goals as goal

pub returns-in_ok-tell_unseated-in-Err-clause-line : goal.returns-in_ok-tell_unseated-in-Err-clause-line
returns-in_ok-tell_unseated-in-Err-clause-line g c =
    let is : c.args.seating.now ≡ Err c.in-Err.refusal = search rules in
    told_unseated g.B.Naming.boot.limits c.args.known.now c.args.seating.now c.in-Err.refusal c.args.self.now.own
    c.args.self.now.batch.lines.items c.args.self.now.answers c.tell_unseated.new.answers c.args.line.now is
    c.in_ok-tell_unseated-in-Err.ensures.told c.in_ok-tell_unseated-in-Err.ensures.reads
