use Rattle.std.proofs.Common.{sym, ap, ◌∙◌, arith}
use Rattle.memory_calls.proofs.accesses.load.Goals as goal

pub returns-in-Some-clause-looks : goal.returns-in-Some-clause-looks
returns-in-Some-clause-looks g c =
    g.met.S.Store.more_spent 8 9 _ _ (omega arith)
    (g.met.S.Store.both_spent 2 6 _ _ _ c.find-caller.ensures.looks c.place-placed.ensures.looks)

pub returns-in-Some-placed-clause-looks : goal.returns-in-Some-placed-clause-looks
returns-in-Some-placed-clause-looks g c =
    g.met.S.Store.both_spent 8 1 _ _ _
    (g.met.S.Store.both_spent 2 6 _ _ _ c.find-caller.ensures.looks c.place-placed.ensures.looks)
    c.bytes_there.ensures.looks
