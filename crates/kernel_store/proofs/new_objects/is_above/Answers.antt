use Rattle.std.proofs.Common.{arith}
use Rattle.kernel_store.proofs.new_objects.is_above.Goals as goal

pub returns-clause-meter : goal.returns-clause-meter
returns-clause-meter g c =
    omega (arith, g.met.S.Store.kept_scans 1 _ _ c.is_below.ensures.scans)
