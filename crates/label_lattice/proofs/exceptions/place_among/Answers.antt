use Rattle.label_lattice.proofs.PlaceLemmas.{placed-set, placed-remove, room-set, room-remove}
use Rattle.label_lattice.proofs.PlaceLemmas.{placed-insert, placed-stays, room-insert, room-full}
use Rattle.label_lattice.proofs.PlaceLemmas.{room-stays}
use Rattle.std.proofs.Common.{◌∙◌}
use Rattle.label_lattice.proofs.exceptions.place_among.Goals as goal

pub returns-then-differs-clause-room : goal.returns-then-differs-clause-room
returns-then-differs-clause-room c =
    room-set c.args.default c.args.pair c.args.exceptions.now
    c.place_of-place.result c.place_of-place.ensures.place
    (rw c.len-many.ensures.value at c.len-many.ensures.few)
    c.if-has_at.ensures.value (rw (c.rank.ensures, c.rank-2.ensures) at c.if-differs.true)

pub returns-then-differs-clause-placed : goal.returns-then-differs-clause-placed
returns-then-differs-clause-placed c =
    c.set.ensures ∙ placed-set c.args.default c.args.pair c.args.exceptions.now
    c.place_of-place.result c.place_of-place.ensures.place
    (rw c.len-many.ensures.value at c.len-many.ensures.few)
    c.if-has_at.ensures.value (rw (c.rank.ensures, c.rank-2.ensures) at c.if-differs.true)

pub returns-else-differs-clause-room : goal.returns-else-differs-clause-room
returns-else-differs-clause-room c =
    room-remove c.args.default c.args.pair c.args.exceptions.now
    c.place_of-place.result c.place_of-place.ensures.place
    (rw c.len-many.ensures.value at c.len-many.ensures.few)
    c.if-has_at.ensures.value (rw (c.rank.ensures, c.rank-2.ensures) at c.if-differs.false)

pub returns-else-differs-clause-placed : goal.returns-else-differs-clause-placed
returns-else-differs-clause-placed c =
    c.remove.ensures ∙ placed-remove c.args.default c.args.pair c.args.exceptions.now
    c.place_of-place.result c.place_of-place.ensures.place
    (rw c.len-many.ensures.value at c.len-many.ensures.few)
    c.if-has_at.ensures.value (rw (c.rank.ensures, c.rank-2.ensures) at c.if-differs.false)

pub returns-then-many-eq-MOST-clause-room : goal.returns-then-many-eq-MOST-clause-room
returns-then-many-eq-MOST-clause-room c =
    room-full c.args.default c.args.pair c.args.exceptions.now
    c.place_of-place.result c.place_of-place.ensures.place
    (rw c.len-many.ensures.value at c.len-many.ensures.few)
    c.place_of-place.ensures.within c.if-has_at.ensures.value (rw (c.rank.ensures, c.rank-2.ensures) at c.if-differs-2.true)
    (rw c.len-many.ensures.value at c.if-many-eq-MOST.true)

pub returns-else-many-eq-MOST-clause-room : goal.returns-else-many-eq-MOST-clause-room
returns-else-many-eq-MOST-clause-room c =
    room-insert c.args.default c.args.pair c.args.exceptions.now
    c.place_of-place.result c.place_of-place.ensures.place
    (rw c.len-many.ensures.value at c.len-many.ensures.few)
    c.place_of-place.ensures.within c.if-has_at.ensures.value (rw (c.rank.ensures, c.rank-2.ensures) at c.if-differs-2.true)
    (rw c.len-many.ensures.value at c.if-many-eq-MOST.false)

pub returns-else-many-eq-MOST-clause-placed : goal.returns-else-many-eq-MOST-clause-placed
returns-else-many-eq-MOST-clause-placed c =
    c.insert.ensures ∙ placed-insert c.args.default c.args.pair c.args.exceptions.now
    c.place_of-place.result c.place_of-place.ensures.place
    (rw c.len-many.ensures.value at c.len-many.ensures.few)
    c.place_of-place.ensures.within c.if-has_at.ensures.value (rw (c.rank.ensures, c.rank-2.ensures) at c.if-differs-2.true)

pub returns-else-differs-2-clause-room : goal.returns-else-differs-2-clause-room
returns-else-differs-2-clause-room c =
    room-stays c.args.default c.args.pair c.args.exceptions.now
    c.place_of-place.result c.place_of-place.ensures.place
    (rw c.len-many.ensures.value at c.len-many.ensures.few)
    c.place_of-place.ensures.within c.if-has_at.ensures.value (rw (c.rank.ensures, c.rank-2.ensures) at c.if-differs-2.false)

pub returns-else-differs-2-clause-placed : goal.returns-else-differs-2-clause-placed
returns-else-differs-2-clause-placed c =
    placed-stays c.args.default c.args.pair c.args.exceptions.now
    c.place_of-place.result c.place_of-place.ensures.place
    (rw c.len-many.ensures.value at c.len-many.ensures.few)
    c.place_of-place.ensures.within c.if-has_at.ensures.value (rw (c.rank.ensures, c.rank-2.ensures) at c.if-differs-2.false)
