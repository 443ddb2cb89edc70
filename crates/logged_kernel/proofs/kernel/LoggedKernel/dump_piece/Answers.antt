use Rattle.std.proofs.Common.{Option, Some, ap, subst}
use Rattle.checkpoints.specs.Starts.{start_of}
use Rattle.logged_kernel.specs.declared.logging.EventLog.{EventLog}
use Rattle.logged_kernel.specs.Logged.{Logged, IsLog, IsPieceOf, entries_in}
use Rattle.syscall_core.specs.Kernel.{kernel_state}
use Rattle.logged_kernel.proofs.kernel.LoggedKernel.dump_piece.Goals as goal

pub returns-clause-piece : goal.returns-clause-piece
returns-clause-piece c =
    let k = c.self.inside in
    let leads = subst (λ (l : Option EventLog). IsLog (start_of k.limits k.origin) (kernel_state k.kernel) (entries_in l)) c.in-Some.is
    c.self.invariant.0.log in
    subst (λ (l : Logged). IsPieceOf l c.args.number (Some c.in_ok-text.text.items)) c.self.view_is (
      c.in-Some.log.entries.items,
      ap entries_in c.in-Some.is,
      record { text = c.in_ok-text.ensures.text; fits = c.in_ok-text.ensures.fits },
      record { range = c.self.invariant.0.range; begin = c.self.invariant.0.fit; leads = leads },
    )
