use Rattle.std.proofs.Common.{◌≡◌, drop}
use Rattle.checkpoints.specs.Starts.{number_of}
use Rattle.logged_kernel.proofs.numbers.number_of.Given as goal

abbrev pub invariant-loop-noted : goal.invariant-loop-noted
invariant-loop-noted l = number_of l.next l.thread ≡ number_of (drop l.noted-index l.next) l.thread
