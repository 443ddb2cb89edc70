use Rattle.std.proofs.Common.{◌∙◌, ap}
use Rattle.kernel_rules.specs.Scratch.{with_labels}
use Rattle.kernel_calls.specs.ById.{labels_at}
use Rattle.kernel_calls.proofs.ByIdLaws.{with_labels-more}
use Rattle.kernel_calls.proofs.kernel_tables.labels.stored_labels.Goals as goal

pub loop-id-preserved : goal.loop-id-preserved
loop-id-preserved g c =
    let labels = labels_at (g.S.Store.state c.args.state.now) in
    c.in_ok-add_object.ensures
    ∙ (ap (λ v. with_labels v (labels c.id-item.result)) c.loop-id.invariant
    ∙ with_labels-more labels c.args.ids.now c.loop-id.id-index c.id-item.result c.loop-id-test.true c.id-item.is)
