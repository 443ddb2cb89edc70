use Rattle.std.proofs.Common.{subst}
use Rattle.script_runner.specs.Shared.{Post, Settles}
use Rattle.script_runner.proofs.SharedLaws.{post_of, settles}
use Rattle.script_runner.proofs.workers.Worker.settle.Goals as goal

pub returns : goal.returns
returns g c =
    subst (λ (before : Post). Settles c.args.notes.now before
    (post_of c.self.inside.name c.learn_notes.new.seating c.none.result c.self.inside.hand.answers)) c.self.view_is
    (settles c.args.notes.now c.self.inside.name c.self.inside.seating c.learn_notes.new.seating c.self.inside.hand.own c.none.result
    c.self.inside.hand.answers c.learn_notes.ensures.seat c.learn_notes.ensures.seen c.learn_notes.ensures.noted c.learn_notes.ensures.learnt
    c.none.ensures)
