use Rattle.std.proofs.Common.{◌≡◌, ◌++◌, ◌∷◌, [], List, ap, sym, ◌∙◌, subst, rules}
use Rattle.std.specs.Arc.{arc_value}
use Rattle.kernel_rules.specs.Events.{by}
use Rattle.kernel_rules.specs.Runs.{state_after}
use Rattle.kernel_rules.specs.declared.calls.Call.{Call}
use Rattle.syscall_core.specs.Kernel.{kernel_state}
use Rattle.syscall_core.specs.declared.kernel.Kernel.{Kernel}
use Rattle.shared_calls.specs.Knowledge.{IsKnown}
use Rattle.shared_calls.specs.Lists.{made}
use Rattle.shared_calls.specs.Seats.{state_of}
use Rattle.shared_calls.specs.declared.lists.CallList.{CallList}
use Rattle.shared_calls.specs.declared.rules.Made.{Made}
use Rattle.shared_calls.proofs.Taking.{state_more}
use Rattle.shared_calls.proofs.seats.Seat.submit_batch.Goals as goal

pub invariant_of-self-2 : goal.invariant_of-self-2
invariant_of-self-2 c =
    let s = c.self.inside in
    let limits = (arc_value s.chair.list).limits in
    let thread = c.args.thread in
    let calls : List Call = c.args.calls.now in
    let m : Made = made s.known.pen.nib.key thread calls in
    let some : c.in-Some.call.now ∷ c.in-Some.more.now ≡ calls = search rules in
    let log : c.add.new.known.cursor.seen.log ≡ s.known.cursor.seen.log ++ m ∷ [] =
    c.in_ok-add.ensures.log
    ∙ (λ i. (ap (λ t. t.log) c.room.ensures.seen) i ++ made s.known.pen.nib.key thread (some i) ∷ []) in (
      subst (λ (l : CallList). IsKnown l.start.book c.add.new.known) c.deref.ensures c.add.ensures.known,
      c.make_all.ensures.state ∙ (ap (λ (k : Kernel). state_after (kernel_state k) (by thread calls)) c.in-Some-get_mut.ensures.value
          ∙ (ap (λ t. state_after t (by thread calls)) c.self.invariant.1
          ∙ (sym (state_more limits s.known.cursor.seen.log m) ∙ ap (state_of limits) (sym log)))),
    )
