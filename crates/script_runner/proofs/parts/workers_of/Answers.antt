use Rattle.std.proofs.Common.{◌≡◌, ◌∙◌, ℕ, List, Some, length, slice_get, refl, subst}
use Rattle.std.proofs.lemmas.Option.{slice_get_read}
use Rattle.call_text.specs.declared.phases.Line.{Line}
use Rattle.script_runner.proofs.NumberLaws.{workers_after}
use Rattle.script_runner.proofs.parts.workers_of.Goals as goal

pub loop-phase-preserved : goal.loop-phase-preserved
loop-phase-preserved c =
    let phases : List (List Line) = c.args.script.now in
    let lines : List Line = c.phase-item.result in
    let k : ℕ = c.loop-phase.phase-index in
    let items : c.deref-phase-items.result.now ≡ phases = c.deref-phase-items.ensures.value ∙ c.script.view_is in
    let there : slice_get phases k ≡ Some lines
    = subst (λ (l : List (List Line)). slice_get l k ≡ Some lines) items
    (slice_get_read c.deref-phase-items.result.now (length c.deref-phase-items.result.now) k lines refl c.loop-phase-test.true c.phase-item.is) in
    c.in_ok-add_workers.ensures ∙ workers_after phases k lines c.loop-phase.names.keys there c.loop-phase.invariant
