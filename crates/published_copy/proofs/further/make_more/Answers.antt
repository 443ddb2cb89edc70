use Rattle.std.proofs.Common.{◌∙◌}
use Rattle.syscall_core.specs.Kernel.{kernel_state}
use Rattle.kernel_rules.proofs.BatchLaws.{made_more}
use Rattle.published_copy.proofs.further.make_more.Goals as goal

pub loop-call-preserved : goal.loop-call-preserved
loop-call-preserved c =
    rw (c.push_reserved.ensures.items, c.push_reserved.ensures.capacity)
    (made_more _ (kernel_state c.loop-call.kernel) _ _ _ _ _ _ c.call-item.result _
    c.loop-call.invariant c.loop-call-test.true c.call-item.is (c.new.ensures ∙ c.step_into.ensures.reply)
    c.step_into.ensures.state)
