use Rattle.std.proofs.Common.{OnOk, subst}
use Rattle.script_runner.specs.Shared.{Plays, Post}
use Rattle.script_runner.proofs.SharedLaws.{plays_ok, post_of}
use Rattle.script_runner.proofs.workers.Worker.play.Goals as goal

pub returns : goal.returns
returns g c =
    subst (λ (before : Post). OnOk c.play_lines.result (Plays g.B.Naming.boot.limits c.args.known.now c.args.phase.now before
    (post_of c.self.inside.name c.play_lines.new.seating c.play_lines.new.self.own c.play_lines.new.self.answers))) c.self.view_is
    (plays_ok g.B.Naming.boot.limits c.args.known.now c.args.phase.now c.play_lines.result c.self.inside.name c.self.inside.seating
    c.play_lines.new.seating c.self.inside.hand.own c.play_lines.new.self.own c.self.inside.hand.answers c.play_lines.new.self.answers
    c.play_lines.new.self.batch.lines.items c.play_lines.ensures.played c.play_lines.ensures.seat)
