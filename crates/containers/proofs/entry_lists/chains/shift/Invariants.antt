use Rattle.containers.specs.Chain.{lists_from}
use Rattle.containers.proofs.entry_lists.chains.shift.Given as goal

abbrev pub ghost-take_out : goal.ghost-take_out
ghost-take_out g a = g.lists

abbrev pub ghost-put_last : goal.ghost-put_last
ghost-put_last g a = lists_from a.next.now a.cells a.lens.now
