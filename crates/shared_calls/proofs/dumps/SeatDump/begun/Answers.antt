use Rattle.std.proofs.Common.{arith}
use Rattle.shared_calls.proofs.dumps.SeatDump.begun.Goals as goal

pub invariant_of-result : goal.invariant_of-result
invariant_of-result c = (c.requires.telling, c.requires.at, omega arith)
