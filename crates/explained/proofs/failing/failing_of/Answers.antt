use Rattle.explained.proofs.Exact.{failing_made, exact_told, holds_told}
use Rattle.explained.proofs.failing.failing_of.Goals as goal

pub returns-clause-named : goal.returns-clause-named
returns-clause-named c =
    failing_made c.args.relation c.args.first.now c.args.second.now c.args.third.now c.to_raw-a.result
    c.to_raw-b.result c.new-named.result.items c.gather.new.found.items c.gather-2.new.found.items
    c.gather_third.new.found.items c.to_raw-a.ensures.raw c.to_raw-b.ensures.raw c.new-named.ensures.items
    c.in_ok-gather.ensures c.in_ok-gather-2.ensures c.in_ok-gather_third.ensures

pub returns-clause-exact : goal.returns-clause-exact
returns-clause-exact c =
    exact_told c.args.relation c.args.first.now c.args.second.now c.args.third.now c.gather_third.new.found.items
    c.rest_of-rest.result
    (failing_made c.args.relation c.args.first.now c.args.second.now c.args.third.now c.to_raw-a.result
    c.to_raw-b.result c.new-named.result.items c.gather.new.found.items c.gather-2.new.found.items
    c.gather_third.new.found.items c.to_raw-a.ensures.raw c.to_raw-b.ensures.raw c.new-named.ensures.items
    c.in_ok-gather.ensures c.in_ok-gather-2.ensures c.in_ok-gather_third.ensures)
    c.rest_of-rest.ensures

pub returns-clause-holds : goal.returns-clause-holds
returns-clause-holds c =
    holds_told c.args.relation c.args.first.now c.args.second.now c.args.third.now c.gather_third.new.found.items
    c.rest_of-rest.result
    (failing_made c.args.relation c.args.first.now c.args.second.now c.args.third.now c.to_raw-a.result
    c.to_raw-b.result c.new-named.result.items c.gather.new.found.items c.gather-2.new.found.items
    c.gather_third.new.found.items c.to_raw-a.ensures.raw c.to_raw-b.ensures.raw c.new-named.ensures.items
    c.in_ok-gather.ensures c.in_ok-gather-2.ensures c.in_ok-gather_third.ensures)
    c.rest_of-rest.ensures
