use Rattle.std.proofs.Common.{◌∙◌}
use Rattle.flows.proofs.Placing.{put_there, put_anew}
use Rattle.flows.proofs.rising.put.Goals as goal

pub returns-then-is_at : goal.returns-then-is_at
returns-then-is_at c =
    put_there c.args.id c.place_of-place.result c.is_at.result c.args.ids.now.items c.deref.result.now
    c.deref-2.result.now c.deref.ensures.value c.deref-2.ensures.value c.place_of-place.ensures.place
    c.is_at.ensures c.if-is_at.true

pub returns : goal.returns
returns c =
    c.in_ok-insert.ensures.items
    ∙ put_anew c.args.id c.place_of-place.result c.is_at.result c.args.ids.now.items c.deref.result.now
    c.deref-2.result.now c.deref.ensures.value c.deref-2.ensures.value c.place_of-place.ensures.place
    c.is_at.ensures c.if-is_at.false
