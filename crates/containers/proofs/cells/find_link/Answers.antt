use Rattle.std.proofs.Common.{◌∙◌}
use Rattle.containers.proofs.cells.find_link.Goals as goal

pub later_link-requires-clause-later : goal.later_link-requires-clause-later
later_link-requires-clause-later c = λ cell link is.
    c.in-None.ensures.another cell link (c.first-first.ensures.value ∙ is)
