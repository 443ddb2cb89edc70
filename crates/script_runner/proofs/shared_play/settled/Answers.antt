use Rattle.std.proofs.Common.{List, ◌∷◌, [], ◌++◌, sym, subst}
use Rattle.std.specs.List.{AllZip}
use Rattle.std.proofs.lemmas.List.Elements.{AllZip-push}
use Rattle.script_runner.specs.Shared.{Post, Settles}
use Rattle.script_runner.proofs.shared_play.settled.Goals as goal

pub loop-worker-preserved : goal.loop-worker-preserved
loop-worker-preserved g c =
    subst (λ (ps : List Post). AllZip (Settles c.args.notes.now) (c.loop-worker.yielded ++ c.in-Some.worker ∷ []) ps) (sym c.in_ok-push.ensures.items)
    (AllZip-push (Settles c.args.notes.now) c.loop-worker.yielded c.loop-worker.settled.items c.in-Some.worker c.settle.new.self c.loop-worker.invariant
    c.settle.ensures)
