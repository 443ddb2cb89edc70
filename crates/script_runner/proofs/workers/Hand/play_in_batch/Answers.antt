use Rattle.std.proofs.Common.{rules, ◌≡◌, true}
use Rattle.script_runner.proofs.SharedLaws.{line_waits}
use Rattle.script_runner.proofs.workers.Hand.play_in_batch.Goals as goal

pub returns-then-line-clause-line : goal.returns-then-line-clause-line
returns-then-line-clause-line g c =
    let more : c.args.line.now.more ≡ true = search rules in
    line_waits g.B.Naming.boot.limits c.args.desk.now.thread c.args.known.now c.args.desk.now.events c.args.self.now.own
    c.args.self.now.batch.lines.items c.gather.new.self.lines.items c.args.self.now.answers c.args.line.now more c.in_ok-gather.ensures.waits
    c.args.desk.now.noted
