use Rattle.std.proofs.Common.{rules, ◌≡◌, true, false, is_ok, refl, subst}
use Rattle.script_runner.specs.Shared.{takes_part, Post, Sits}
use Rattle.script_runner.proofs.SharedLaws.{post_of, sits_new, sits_ok, sits_out}
use Rattle.script_runner.proofs.workers.Worker.sit.Goals.{then-is_ok-via-then-is_ok, then-is_ok-via-else-is_ok+then-not-takes_part}
use Rattle.script_runner.proofs.workers.Worker.sit.Goals as goal

pub returns-then-is_ok : goal.returns-then-is_ok
returns-then-is_ok g c =
    let own : Post = post_of c.self.inside.name c.self.inside.seating c.self.inside.hand.own c.self.inside.hand.answers in
    subst (λ (p : Post). Sits g.B.Naming.boot.limits g.B.Naming.boot.seats c.args.known.now c.args.phase.now p p) c.self.view_is
    (elim c.then-is_ok.branch [
      | then-is_ok-via-then-is_ok w ↦
          let has : is_ok c.self.inside.seating ≡ true = search rules in
          sits_ok g.B.Naming.boot.limits g.B.Naming.boot.seats c.args.known.now c.args.phase.now c.self.inside.name c.self.inside.seating
          c.self.inside.hand.own c.self.inside.hand.answers has
      | then-is_ok-via-else-is_ok+then-not-takes_part w ↦
          let out : takes_part c.self.inside.name c.args.phase.now ≡ false = search rules in
          sits_out g.B.Naming.boot.limits g.B.Naming.boot.seats c.args.known.now c.args.phase.now own own refl out
    ])

pub returns : goal.returns
returns g c =
    let none : is_ok c.self.inside.seating ≡ false = search rules in
    let takes : takes_part c.self.inside.name c.args.phase.now ≡ true = search rules in
    subst (λ (p : Post). Sits g.B.Naming.boot.limits g.B.Naming.boot.seats c.args.known.now c.args.phase.now p
    (post_of c.self.inside.name c.seated.result c.self.inside.hand.own c.self.inside.hand.answers)) c.self.view_is
    (sits_new g.B.Naming.boot.limits g.B.Naming.boot.seats c.args.known.now c.args.phase.now c.self.inside.name c.self.inside.seating
    c.seated.result c.self.inside.hand.own c.self.inside.hand.answers none takes (search rules) (search rules))
