use Rattle.std.proofs.Common.{◌≡◌, ◌+◌, ◌∷◌, List, drop, sym, ap, ◌∙◌}
use Rattle.std.proofs.lemmas.List.{drop_more}
use Rattle.script_runner.specs.Reads.{told_with}
use Rattle.script_runner.specs.declared.reads.SeenRead.{SeenRead}
use Rattle.script_runner.proofs.replays.Replay.take_all.Goals as goal

pub loop-read-preserved : goal.loop-read-preserved
loop-read-preserved c = λ limits was.
    let reads = c.args.reads.now in
    let i = c.loop-read.read-index in
    let r = c.read-item.result in
    let before = c.loop-read.invariant limits was in
    let taken = c.in_ok-take.ensures limits before.0 in
    let split : drop i reads ≡ r ∷ drop (i + 1) reads =
    drop_more reads i r c.loop-read-test.true ∙ ap (λ (m : SeenRead). m ∷ drop (i + 1) reads) (sym c.read-item.is) in (
      taken.0,
      taken.1 (drop (i + 1) reads)
          ∙ ap (λ (l : List SeenRead). told_with limits c.args.first c.args.events.now c.loop-read.self l) (sym split) ∙ before.1,
    )
