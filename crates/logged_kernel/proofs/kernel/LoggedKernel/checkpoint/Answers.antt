use Rattle.std.proofs.Common.{sym, subst}
use Rattle.syscall_core.specs.Kernel.{kernel_state}
use Rattle.syscall_core.specs.Restored.{AreNext}
use Rattle.logged_kernel.specs.Logged.{Logged, AreNumbered, Writes, entries_in}
use Rattle.logged_kernel.proofs.LogLaws.{all_three, writes}
use Rattle.logged_kernel.proofs.kernel.LoggedKernel.checkpoint.Goals as goal

pub returns : goal.returns
returns c =
    let k = c.self.inside in
    let view : Logged = record { kernel = k.kernel; limits = k.limits; origin = k.origin; is_new = k.is_new; log = entries_in k.log; most = k.most; reads = k.reads } in
    let whole = subst (λ (l : Logged). AreNext (kernel_state l.kernel) c.in_ok-next.next.items) (sym c.self.view_is) c.in_ok-next.ensures.whole in
    let numbered = subst (λ (l : Logged). AreNumbered l c.in_ok-next.next.items) (sym c.self.view_is) c.in_ok-next.ensures.numbers in
    all_three c.checkpoint.result _ _ _ _ (λ made state next fit.
    subst (λ (l : Logged). Writes l made) c.self.view_is
    (writes view made c.in_ok-next.next.items c.self.invariant.0.same state next fit numbered))
    c.checkpoint.ensures.state c.checkpoint.ensures.next (c.checkpoint.ensures.fit whole)
