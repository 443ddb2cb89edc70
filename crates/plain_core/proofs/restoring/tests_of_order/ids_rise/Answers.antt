use Rattle.std.proofs.Common.{◌∙◌}
use Rattle.plain_core.proofs.ClimbLaws.{ids_first}
use Rattle.plain_core.proofs.restoring.tests_of_order.ids_rise.Goals as goal

pub returns-in-len1-up : goal.returns-in-len1-up
returns-in-len1-up c =
    c.ids_climb.ensures
    ∙ ids_first c.first-item.result c.args.objects.now c.in-len1-up.len_at_least c.first-item.is
