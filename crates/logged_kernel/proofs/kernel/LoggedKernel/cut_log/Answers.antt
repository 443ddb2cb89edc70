use Rattle.std.proofs.Common.{true, List, Some, sym, subst}
use Rattle.syscall_core.specs.Kernel.{kernel_state}
use Rattle.logged_kernel.proofs.LastLaws.{last_none}
use Rattle.logged_kernel.proofs.LogLaws.{sound_begun}
use Rattle.logged_kernel.specs.Logged.{Logged, IsSound, Writes}
use Rattle.logged_kernel.specs.declared.entries.Entry.{Entry}
use Rattle.logged_kernel.proofs.kernel.LoggedKernel.cut_log.Goals as goal

pub invariant_of-self : goal.invariant_of-self
invariant_of-self c =
    let k = c.self.inside in
    let made = c.in_ok-self-inside.field-0 in
    let written = subst (λ (l : Logged). Writes l made) (sym c.self.view_is) c.in_ok-self-inside.ensures in (
      subst (λ (l : List Entry). IsSound k.limits made (kernel_state k.kernel) true (Some l)) (sym c.new.ensures.entries)
          (sound_begun k.limits made (kernel_state k.kernel) true c.self.invariant.0.same c.self.invariant.0.range written.fit (sym written.state)),
      last_none made.next c.new.result.last c.new.result.entries.items c.new.ensures.entries (c.new.ensures.last made.next),
    )
