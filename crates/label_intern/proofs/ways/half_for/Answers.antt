use Rattle.label_intern.proofs.WaysLemmas.{tells_ways}
use Rattle.label_intern.proofs.ways.half_for.Goals as goal

pub returns-then-back-eq0-clause-told : goal.returns-then-back-eq0-clause-told
returns-then-back-eq0-clause-told c = (tells_ways _ _ c.requires).none_back c.if-back-eq0.true

pub returns-then-forth-eq0-clause-told : goal.returns-then-forth-eq0-clause-told
returns-then-forth-eq0-clause-told c = (tells_ways _ _ c.requires).none_forth c.if-back-eq0.false c.if-forth-eq0.true

pub returns-else-forth-eq0-clause-told : goal.returns-else-forth-eq0-clause-told
returns-else-forth-eq0-clause-told c = (tells_ways _ _ c.requires).both c.if-back-eq0.false c.if-forth-eq0.false
