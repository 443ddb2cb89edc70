use Rattle.containers.proofs.Fresh.{range_push}
use Rattle.containers.proofs.entry_lists.chains.each_below.Goals as goal

pub loop-i-preserved : goal.loop-i-preserved
loop-i-preserved c =
    let more = range_push c.loop-i.i in
    let pushed = c.in_ok-push.ensures.items in
    cc
