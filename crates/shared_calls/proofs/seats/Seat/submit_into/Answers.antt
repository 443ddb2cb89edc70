use Rattle.std.proofs.Common.{◌≡◌, ◌++◌, ◌∷◌, [], List, ap, sym, ◌∙◌, subst}
use Rattle.std.specs.Arc.{arc_value}
use Rattle.kernel_rules.specs.Step.{next}
use Rattle.syscall_core.specs.Kernel.{kernel_state}
use Rattle.syscall_core.specs.declared.kernel.Kernel.{Kernel}
use Rattle.shared_calls.specs.Knowledge.{IsKnown}
use Rattle.shared_calls.specs.Lists.{made}
use Rattle.shared_calls.specs.Seats.{state_of}
use Rattle.shared_calls.specs.declared.lists.CallList.{CallList}
use Rattle.shared_calls.specs.declared.rules.Made.{Made}
use Rattle.shared_calls.proofs.Taking.{state_more}
use Rattle.shared_calls.proofs.seats.Seat.submit_into.Goals as goal

pub invariant_of-self-2 : goal.invariant_of-self-2
invariant_of-self-2 c =
    let s = c.self.inside in
    let limits = (arc_value s.chair.list).limits in
    let m : Made = made s.known.pen.nib.key c.args.thread (c.args.call.now ∷ []) in
    let log : c.add.new.known.cursor.seen.log ≡ s.known.cursor.seen.log ++ m ∷ [] =
    c.in_ok-add.ensures.log ∙ ap (λ (l : List Made). l ++ m ∷ []) (ap (λ t. t.log) c.room.ensures.seen) in (
      subst (λ (l : CallList). IsKnown l.start.book c.add.new.known) c.deref.ensures c.add.ensures.known,
      c.step_into.ensures.state ∙ (ap (λ (k : Kernel). next (kernel_state k) m.thread c.args.call.now) c.in-Some.ensures.value
          ∙ (ap (λ t. next t m.thread c.args.call.now) c.self.invariant.1
          ∙ (sym (state_more limits s.known.cursor.seen.log m) ∙ ap (state_of limits) (sym log)))),
    )
