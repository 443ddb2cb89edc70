use Rattle.plain_core.proofs.RunLaws.{one_more}
use Rattle.plain_core.proofs.machine.run.Goals as goal

pub loop-call-preserved : goal.loop-call-preserved
loop-call-preserved g c =
    rw (c.push_reserved.ensures.items, c.push_reserved.ensures.capacity)
    (one_more _ (g.M.Machine.state c.loop-call.machine) _ _ _ _ _ c.call-item.result c.in_ok-reply.reply
    c.loop-call.invariant c.loop-call-test.true c.call-item.is c.in_ok-reply.ensures.reply
    c.in_ok-reply.ensures.ok)
