use Rattle.std.proofs.Common.{arith}
use Rattle.containers.proofs.SearchSteps.{probes_within}
use Rattle.containers.proofs.object_arena.arena.Arena.find.Goals as goal

pub returns-in-Some-clause-cost : goal.returns-in-Some-clause-cost
returns-in-Some-clause-cost g c =
    probes_within c.args.meter.now c.hint_of.new.meter _ _ (omega (arith, c.hint_of.ensures.fewer)) c.hint_of.ensures.cost
