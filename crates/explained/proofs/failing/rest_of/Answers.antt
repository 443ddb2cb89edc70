use Rattle.std.proofs.Common.{◌∙◌}
use Rattle.explained.proofs.Exact.{rest_by_defaults}
use Rattle.explained.proofs.failing.rest_of.Goals as goal

pub returns : goal.returns
returns c =
    c.failing.ensures
    ∙ rw (c.default_sides.ensures.left, c.default_sides.ensures.right, c.requires.first, c.requires.second, c.requires.third)
    (rest_by_defaults c.args.compared.now.relation c.args.compared.now.first.now
    c.args.compared.now.second.now c.args.compared.now.third.now)
