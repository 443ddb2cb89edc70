use Rattle.shown_dumps.proofs.TextLaws.{three_parts}
use Rattle.shown_dumps.proofs.why.parts.put_sum.Goals as goal

pub returns : goal.returns
returns c =
    three_parts _ _ _ _ _ _ _ c.in_ok-put_wide.ensures c.in_ok-extend_from_slice.ensures.items c.in_ok-put_more.ensures
