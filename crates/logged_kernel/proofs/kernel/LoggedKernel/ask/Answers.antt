use Rattle.std.proofs.Common.{◌≡◌, Option, subst}
use Rattle.syscall_core.specs.Kernel.{kernel_state}
use Rattle.logged_kernel.proofs.LastLaws.{last_read}
use Rattle.logged_kernel.proofs.LogLaws.{sound_read}
use Rattle.logged_kernel.specs.Logged.{IsNumbered, IsSound, entries_in}
use Rattle.logged_kernel.specs.ReadLines.{line_of, read_of}
use Rattle.logged_kernel.specs.declared.logging.EventLog.{EventLog}
use Rattle.logged_kernel.proofs.kernel.LoggedKernel.ask.Goals as goal
use Rattle.logged_kernel.proofs.kernel.LoggedKernel.ask.Goals.{in-None, in-Some}

pub invariant_of-self : goal.invariant_of-self
invariant_of-self c =
    let k = c.self.inside in
    let sound : (log : Option EventLog) → k.log ≡ log
    → IsSound k.limits k.origin (kernel_state k.kernel) k.is_new (entries_in log) =
    λ log is. subst (λ (l : Option EventLog). IsSound k.limits k.origin (kernel_state k.kernel) k.is_new (entries_in l)) is
    c.self.invariant.0 in
    elim c.match-self.branch [
      | in-None w ↦ rw w.self-inside-is c.self.invariant
      | in-Some w ↦ rw w.self-inside-is (
        (sound_read w.keep_read.result k.limits k.origin (kernel_state k.kernel) k.is_new w.in-Some.log.entries.items
            w.keep_read.new.log.entries.items c.args.thread c.args.query.now c.ask_into.new.reply (sound _ w.in-Some.is) c.ask_into.ensures.reply
            w.keep_read.ensures.kept w.keep_read.ensures.fits w.keep_read.ensures.same),
        last_read w.keep_read.result k.origin.next w.in-Some.log.last w.keep_read.new.log.last w.in-Some.log.entries.items
            w.keep_read.new.log.entries.items (line_of (read_of c.args.thread c.args.query.now c.ask_into.new.reply)) w.keep_read.ensures.kept
            w.keep_read.ensures.same w.keep_read.ensures.last
            (subst (λ (l : Option EventLog). IsNumbered k.origin.next l) w.in-Some.is c.self.invariant.1),
      )
    ]
