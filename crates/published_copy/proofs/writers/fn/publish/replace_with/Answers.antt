use Rattle.std.proofs.Common.{rules}
use Rattle.published_copy.proofs.Shares.{marks, surely}
use Rattle.published_copy.proofs.writers.fn.publish.replace_with.Goals as goal

pub publish_as-writer-requires : goal.publish_as-writer-requires
publish_as-writer-requires g c next is = let f = c.requires next is in marks _ _ c.args.writer.desk.shown.value next f.0 f.1 f.2

pub returns : goal.returns
returns g c =
    let step = c.publish_as-writer in
    let both = surely _ _ step.result.1 (step.ensures.succeeds (search rules)) step.ensures.values step.ensures.rule in
    (both.0.0, both.0.1, both.1)
