use Rattle.std.proofs.Common.{arith}
use Rattle.kernel_store.proofs.new_objects.is_in_range.Goals as goal

pub returns-clause-meter : goal.returns-clause-meter
returns-clause-meter g c =
    omega (arith, g.met.S.Store.kept_scans 2 _ _ c.is_between.ensures.scans)
