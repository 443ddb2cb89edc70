use Rattle.containers.specs.Chain.{lists_from}
use Rattle.containers.proofs.entry_lists.chains.Chains.shift.Given as goal

abbrev pub ghost-shift : goal.ghost-shift
ghost-shift a = lists_from a.next.now a.cells a.lens.now
