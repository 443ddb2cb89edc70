use Rattle.std.proofs.Common.{◌≡◌, ◌∙◌, ◌≤◌, ◌++◌, ◌∷◌, [], Some, ap, arith, length, map, slice_get, sym}
use Rattle.std.proofs.lemmas.List.{take_all}
use Rattle.script_runner.specs.Shared.{unplayed, Post}
use Rattle.script_runner.proofs.SharedLaws.{idle_more}
use Rattle.script_runner.proofs.shared_play.idle.Goals as goal

pub loop-index-preserved : goal.loop-index-preserved
loop-index-preserved g c =
    let there : slice_get c.args.names.now.keys c.loop-index.index ≡ Some c.in-Some.name.now = sym c.in-Some.ensures.key in
    idle_more c.args.names.now.keys c.loop-index.index c.in-Some.name.now c.loop-index.idle.items c.push.new.self.items there
    c.loop-index.invariant
    (c.in_ok-push.ensures.items ∙ ap (λ (p : Post). c.loop-index.idle.items ++ p ∷ []) c.new.ensures)

pub returns : goal.returns
returns g c =
    let end : length c.args.names.now.keys ≤ c.loop-index.index = omega arith in
    c.loop-index.invariant ∙ ap (map unplayed) (take_all c.loop-index.index c.args.names.now.keys end)
