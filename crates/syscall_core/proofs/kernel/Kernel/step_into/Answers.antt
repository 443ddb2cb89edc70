use Rattle.std.proofs.Common.{arith}
use Rattle.kernel_calls.specs.Scans.{stores}
use Rattle.kernel_calls.proofs.ScanLaws.{more_scans}
use Rattle.kernel_store.specs.Storing.{label_count}
use Rattle.arena_state.proofs.StockLaws.{whole_formed}
use Rattle.arena_state.specs.States.{labels_stored, state_of}
use Rattle.syscall_core.specs.Kernel.{kernel_state}
use Rattle.syscall_core.proofs.CheckpointLaws.{next_reached}
use Rattle.syscall_core.proofs.kernel.Kernel.step_into.Goals as goal

pub invariant_of-self : goal.invariant_of-self
invariant_of-self c =
    let k = c.args.self.now in
    let a = k.kept.state in
    let b = c.step_surely_into.new.state.state in
    let reached = next_reached k.origin (state_of a) (state_of b) c.args.thread c.args.call.now
    (k.reached tt) (whole_formed a.pieces a.sound a.stocked)
    (whole_formed b.pieces b.sound b.stocked) c.step_surely_into.ensures.state in
    record { reached = λ u. reached }

pub returns-clause-scans : goal.returns-clause-scans
returns-clause-scans c =
    omega (
      arith,
      more_scans (stores c.args.call.now) (labels_stored c.args.self.now.kept.state)
          (label_count (kernel_state c.args.self.now)) c.labels_are_carried.ensures,
      c.step_surely_into.ensures.scans,
    )
