use Rattle.containers.specs.Chain.{lists_from}
use Rattle.containers.proofs.entry_lists.chains.Chains.push_back.Given as goal

abbrev pub ghost-put_last : goal.ghost-put_last
ghost-put_last a = lists_from a.next.now a.cells a.lens.now
