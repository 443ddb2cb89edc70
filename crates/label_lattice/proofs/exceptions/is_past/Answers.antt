use Rattle.label_lattice.proofs.PlaceLemmas.{past_last}
use Rattle.label_lattice.proofs.exceptions.is_past.Goals as goal

pub returns-else-many-eq0 : goal.returns-else-many-eq0
returns-else-many-eq0 c =
    rw (c.pair_at.ensures, c.len-many.ensures.value)
    (past_last c.args.category c.args.pairs.now c.requires
    (rw c.len-many.ensures.value at c.if-many-eq0.false))
