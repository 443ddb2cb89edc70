use Rattle.std.proofs.Common.{arith}
use Rattle.thread_calls.proofs.gates.is_open.Goals as goal

pub returns-clause-meter : goal.returns-clause-meter
returns-clause-meter g c =
    omega (arith, g.met.S.Store.kept_scans 5 _ _ c.may_enter.ensures.scans)
