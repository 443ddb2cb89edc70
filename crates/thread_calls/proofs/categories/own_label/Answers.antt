use Rattle.std.proofs.Common.{arith}
use Rattle.thread_calls.proofs.categories.own_label.Goals as goal

pub returns-in-Some-clause-meter : goal.returns-in-Some-clause-meter
returns-in-Some-clause-meter g c =
    omega (arith, g.met.S.Store.kept_scans 1 _ _ c.with_category.ensures.scans)
