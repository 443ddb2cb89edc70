use Rattle.std.proofs.Common.{◌≡◌, ◌+◌, ◌++◌, ◌∷◌, [], take, add-one, ap, sym, ◌∙◌, subst, List}
use Rattle.std.proofs.Math.Seq.{take-suc}
use Rattle.kernel_rules.specs.declared.histories.events.Answered.{Answered}
use Rattle.plain_core.specs.Kernel.{kernel_state}
use Rattle.auditor.proofs.CountLaws.{IsMade, made_more}
use Rattle.auditor.proofs.replays.make.Goals as goal

pub loop-earlier-preserved : goal.loop-earlier-preserved
loop-earlier-preserved c =
    let more : take (c.loop-earlier.earlier-index + 1) c.args.calls.now ≡ take c.loop-earlier.earlier-index c.args.calls.now ++ c.earlier-item.result ∷ [] =
    rw (add-one c.loop-earlier.earlier-index)
    (take-suc c.args.calls.now c.loop-earlier.earlier-index c.earlier-item.result c.loop-earlier-test.true
    ∙ ap (λ (a : Answered). take c.loop-earlier.earlier-index c.args.calls.now ++ a ∷ []) (sym c.earlier-item.is)) in
    subst (λ (l : List Answered). IsMade (kernel_state c.args.kernel.now) (kernel_state c.step.new.self) c.args.thread (take (c.loop-earlier.earlier-index + 1) c.args.calls.now) l)
    (sym c.in_ok-tell.ensures)
    (made_more (kernel_state c.args.kernel.now) (kernel_state c.loop-earlier.kernel) (kernel_state c.step.new.self) c.args.thread
    (take c.loop-earlier.earlier-index c.args.calls.now) (take (c.loop-earlier.earlier-index + 1) c.args.calls.now) c.loop-earlier.made.items
    c.earlier-item.result c.in_ok-reply.reply more c.loop-earlier.invariant c.in_ok-reply.ensures.reply c.in_ok-reply.ensures.ok)
