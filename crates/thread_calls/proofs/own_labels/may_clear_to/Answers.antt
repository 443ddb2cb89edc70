use Rattle.std.proofs.Common.{arith}
use Rattle.thread_calls.proofs.own_labels.may_clear_to.Goals as goal

pub returns-clause-meter : goal.returns-clause-meter
returns-clause-meter g c =
    omega (arith, g.met.S.Store.kept_scans 2 _ _ c.may_clear.ensures.scans)
