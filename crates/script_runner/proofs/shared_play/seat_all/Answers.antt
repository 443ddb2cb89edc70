use Rattle.std.proofs.Common.{List, ◌∷◌, [], ◌++◌, sym, subst}
use Rattle.std.specs.List.{AllZip}
use Rattle.std.proofs.lemmas.List.Elements.{AllZip-push}
use Rattle.script_runner.specs.Shared.{Post, Sits}
use Rattle.script_runner.proofs.shared_play.seat_all.Goals as goal

pub loop-worker-preserved : goal.loop-worker-preserved
loop-worker-preserved g c =
    subst (λ (ps : List Post). AllZip (Sits g.B.Naming.boot.limits g.B.Naming.boot.seats c.args.known.now c.args.phase.now)
    (c.loop-worker.yielded ++ c.in-Some.worker ∷ []) ps) (sym c.in_ok-push.ensures.items)
    (AllZip-push (Sits g.B.Naming.boot.limits g.B.Naming.boot.seats c.args.known.now c.args.phase.now) c.loop-worker.yielded
    c.loop-worker.seated.items c.in-Some.worker c.sit.new.self c.loop-worker.invariant c.sit.ensures)
