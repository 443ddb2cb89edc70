use Rattle.std.proofs.Common.{◌∙◌}
use Rattle.plain_core.proofs.ClimbLaws.{threads_first}
use Rattle.plain_core.proofs.restoring.tests_of_order.threads_rise.Goals as goal

pub returns-in-len1-up : goal.returns-in-len1-up
returns-in-len1-up c =
    c.threads_climb.ensures
    ∙ threads_first c.first-item.result c.args.next.now c.in-len1-up.len_at_least c.first-item.is
