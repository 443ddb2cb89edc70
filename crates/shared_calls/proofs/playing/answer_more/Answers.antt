use Rattle.std.proofs.Common.{◌∙◌, ap, length, length-append, arith, [], ◌∷◌}
use Rattle.kernel_rules.specs.History.{answered}
use Rattle.syscall_core.specs.Kernel.{kernel_state}
use Rattle.shared_calls.proofs.Played.{answered_more, played_more}
use Rattle.shared_calls.proofs.playing.answer_more.Goals as goal

pub loop-call-preserved : goal.loop-call-preserved
loop-call-preserved c =
    let h = c.loop-call.invariant in
    let now = kernel_state c.loop-call.kernel in
    let told = c.answer_call.ensures.told in
    let one = answered now c.args.thread (c.call-item.result ∷ []) in
    record {
      state = played_more _ now _ _ _ _ c.call-item.result h.state c.loop-call-test.true c.call-item.is c.answer_call.ensures.state;
      told = answered_more _ now _ _ _ c.call-item.result _ _ _ h.state h.told c.loop-call-test.true c.call-item.is told;
      room = c.answer_call.ensures.capacity ∙ h.room;
      count = omega (arith, ap length told, length-append c.loop-call.all.items one, h.count);
    }
