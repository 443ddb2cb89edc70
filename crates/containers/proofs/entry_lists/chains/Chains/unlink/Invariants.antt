use Rattle.containers.specs.Chain.{lists_from}
use Rattle.containers.proofs.entry_lists.chains.Chains.unlink.Given as goal

abbrev pub ghost-take_out : goal.ghost-take_out
ghost-take_out a = lists_from a.next.now a.cells a.lens.now
