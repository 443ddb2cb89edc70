use Rattle.std.proofs.Common.{◌∙◌}
use Rattle.label_lattice.proofs.PlaceLemmas.{last-placed, last-stays, last-room, last-full}
use Rattle.label_lattice.proofs.PlaceLemmas.{last-room-stays}
use Rattle.label_lattice.proofs.exceptions.place_last.Goals as goal

pub returns-then-rank-clause-room : goal.returns-then-rank-clause-room
returns-then-rank-clause-room c =
    last-room-stays c.args.default c.args.pair c.args.exceptions.now c.requires
    (rw c.len-many.ensures.value at c.len-many.ensures.few)
    (rw (c.rank.ensures, c.rank-2.ensures) at c.if-rank.true)

pub returns-then-rank-clause-placed : goal.returns-then-rank-clause-placed
returns-then-rank-clause-placed c =
    last-stays c.args.default c.args.pair c.args.exceptions.now c.requires
    (rw c.len-many.ensures.value at c.len-many.ensures.few)
    (rw (c.rank.ensures, c.rank-2.ensures) at c.if-rank.true)

pub returns-then-many-eq-MOST-clause-room : goal.returns-then-many-eq-MOST-clause-room
returns-then-many-eq-MOST-clause-room c =
    last-full c.args.default c.args.pair c.args.exceptions.now c.requires
    (rw c.len-many.ensures.value at c.len-many.ensures.few)
    (rw (c.rank.ensures, c.rank-2.ensures) at c.if-rank.false)
    (rw c.len-many.ensures.value at c.if-many-eq-MOST.true)

pub returns-clause-room : goal.returns-clause-room
returns-clause-room c =
    last-room c.args.default c.args.pair c.args.exceptions.now c.requires
    (rw c.len-many.ensures.value at c.len-many.ensures.few)
    (rw (c.rank.ensures, c.rank-2.ensures) at c.if-rank.false)
    (rw c.len-many.ensures.value at c.if-many-eq-MOST.false)

pub returns-clause-placed : goal.returns-clause-placed
returns-clause-placed c =
    c.push.ensures ∙ last-placed c.args.default c.args.pair c.args.exceptions.now c.requires
    (rw c.len-many.ensures.value at c.len-many.ensures.few)
    (rw (c.rank.ensures, c.rank-2.ensures) at c.if-rank.false)
