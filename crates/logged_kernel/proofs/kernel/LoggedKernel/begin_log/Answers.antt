use Rattle.std.proofs.Common.{List, Some, sym, subst}
use Rattle.syscall_core.specs.Kernel.{kernel_state}
use Rattle.logged_kernel.proofs.LastLaws.{last_none}
use Rattle.logged_kernel.proofs.LogLaws.{sound_begun}
use Rattle.logged_kernel.specs.Logged.{IsSound}
use Rattle.logged_kernel.specs.declared.entries.Entry.{Entry}
use Rattle.logged_kernel.proofs.kernel.LoggedKernel.begin_log.Goals as goal

pub invariant_of-self : goal.invariant_of-self
invariant_of-self c =
    let k = c.self.inside in
    let sound = c.self.invariant.0 in (
      subst (λ (l : List Entry). IsSound k.limits k.origin (kernel_state k.kernel) k.is_new (Some l)) (sym c.new.ensures.entries)
          (sound_begun k.limits k.origin (kernel_state k.kernel) k.is_new sound.same sound.range sound.fit (sound.new c.if-not-self.false)),
      last_none k.origin.next c.new.result.last c.new.result.entries.items c.new.ensures.entries (c.new.ensures.last k.origin.next),
    )
