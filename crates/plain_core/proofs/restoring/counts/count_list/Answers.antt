use Rattle.plain_core.specs.Counted.{count_in}
use Rattle.plain_core.proofs.CountLaws.{listed_more}
use Rattle.plain_core.proofs.restoring.counts.count_list.Goals as goal

pub loop-id-preserved : goal.loop-id-preserved
loop-id-preserved c =
    λ q. listed_more c.args.ids.now c.loop-id.id-index c.id-item.result q (count_in c.args.counts.now q)
    (count_in c.loop-id.counts q) (count_in c.count.new.counts q) c.loop-id-test.true c.id-item.is c.requires
    (c.loop-id.invariant q) (c.in_ok-count.ensures q)
