use Rattle.std.proofs.Common.{sym, subst}
use Rattle.base.specs.declared.ranges.Limits.{Limits}
use Rattle.arena_state.specs.States.{state_of}
use Rattle.syscall_core.specs.Restored.{IsReached}
use Rattle.syscall_core.proofs.CheckpointLaws.{restored_reached}
use Rattle.syscall_core.proofs.kernel.Kernel.restore.Goals as goal

pub invariant_of-result : goal.invariant_of-result
invariant_of-result c =
    record {
      reached = λ u. subst (λ (l : Limits). IsReached l (state_of c.in-Ok.kept.state)) (sym c.new.ensures)
          (restored_reached c.args.limits.now c.args.checkpoint.now (state_of c.in-Ok.kept.state) c.in-Ok.ensures.fit c.in-Ok.ensures.state);
    }
