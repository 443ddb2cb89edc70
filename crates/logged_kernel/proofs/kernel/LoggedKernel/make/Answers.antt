use Rattle.std.proofs.Common.{◌≡◌, false, Option, Some, None, ap, subst}
use Rattle.syscall_core.specs.Kernel.{kernel_state}
use Rattle.logged_kernel.specs.declared.logging.EventLog.{EventLog}
use Rattle.logged_kernel.specs.Logged.{Logged, IsMade, IsSound, entries_in}
use Rattle.logged_kernel.proofs.LogLaws.{items_kept, made_called, made_kept, sound_called, sound_kept}
use Rattle.logged_kernel.proofs.kernel.LoggedKernel.make.Goals as goal
use Rattle.logged_kernel.proofs.kernel.LoggedKernel.make.Goals.{in-None, in-Some+in_ok-make_kept-in-Some}

pub invariant_of-self-2 : goal.invariant_of-self-2
invariant_of-self-2 c =
    let k = c.self.inside in
    let sound : (log : Option EventLog) → k.log ≡ log
    → IsSound k.limits k.origin (kernel_state k.kernel) k.is_new (entries_in log) =
    λ log is. subst (λ (l : Option EventLog). IsSound k.limits k.origin (kernel_state k.kernel) k.is_new (entries_in l)) is
    c.self.invariant.0 in
    elim c.match-self.branch [
      | in-None w ↦ rw (w.self-inside-is, w.in-None.is) (
        (sound_called k.limits k.origin (kernel_state k.kernel) (kernel_state w.step_into.new.self) k.is_new c.args.thread
            c.args.call.now (sound _ w.in-None.is) w.step_into.ensures.state),
        tt,
      )
      | in-Some+in_ok-make_kept-in-Some w ↦ rw w.self-inside-is (
        (sound_kept k.limits k.origin (kernel_state k.kernel) (kernel_state w.make_kept.new.kernel) k.is_new
            w.in-Some.log.entries.items w.make_kept.new.log.entries.items c.args.thread c.args.call.now
            (sound _ w.in-Some.is) w.in_ok-make_kept-in-Some.ensures.state w.in_ok-make_kept-in-Some.ensures.event),
        w.make_kept.ensures.last,
      )
    ]

pub returns-clause-made : goal.returns-clause-made
returns-clause-made c =
    let k = c.self.inside in
    let view : Logged = record { kernel = k.kernel; limits = k.limits; origin = k.origin; is_new = k.is_new; log = entries_in k.log; most = k.most; reads = k.reads } in
    let sound : (log : Option EventLog) → k.log ≡ log
    → IsSound k.limits k.origin (kernel_state k.kernel) k.is_new (entries_in log) =
    λ log is. subst (λ (l : Option EventLog). IsSound k.limits k.origin (kernel_state k.kernel) k.is_new (entries_in l)) is
    c.self.invariant.0 in
    elim c.match-self.branch [
      | in-None w ↦ rw (w.self-inside-is, w.in-None.is)
          (subst (λ (l : Logged). IsMade l (record { kernel = w.step_into.new.self; limits = k.limits; origin = k.origin; is_new = false; log = None; most = k.most; reads = k.reads })
          c.args.thread c.args.call.now) c.self.view_is
          (made_called view w.step_into.new.self c.args.thread c.args.call.now (ap entries_in w.in-None.is) w.step_into.ensures.state))
      | in-Some+in_ok-make_kept-in-Some w ↦ rw w.self-inside-is
          (subst (λ (l : Logged). IsMade l (record {
            kernel = w.make_kept.new.kernel;
            limits = k.limits;
            origin = k.origin;
            is_new = false;
            log = Some w.make_kept.new.log.entries.items;
            most = k.most;
            reads = k.reads;
          }) c.args.thread c.args.call.now) c.self.view_is
          (made_kept view w.make_kept.new.kernel c.args.thread c.args.call.now w.in-Some.log.entries.items
          w.make_kept.new.log.entries.items (ap entries_in w.in-Some.is) w.in_ok-make_kept-in-Some.ensures.state
          (items_kept k.limits k.origin (kernel_state k.kernel) k.is_new w.in-Some.log.entries.items
          w.make_kept.new.log.entries.items c.args.thread c.args.call.now (sound _ w.in-Some.is)
          w.in_ok-make_kept-in-Some.ensures.event)))
    ]
