use Rattle.std.proofs.Common.{rules, ◌≡◌, true, sym, subst}
use Rattle.base.specs.Limits.{in_range}
use Rattle.base.specs.declared.ranges.Limits.{Limits}
use Rattle.arena_state.specs.States.{state_of}
use Rattle.syscall_core.specs.Restored.{IsReached}
use Rattle.syscall_core.proofs.CheckpointLaws.{booted_reached}
use Rattle.syscall_core.proofs.kernel.Kernel.boot.Goals as goal

pub invariant_of-result : goal.invariant_of-result
invariant_of-result c =
    let range : in_range c.args.limits.now ≡ true = search rules in
    record {
      reached = λ u. subst (λ (l : Limits). IsReached l (state_of c.in-Ok.kept.state)) (sym c.new.ensures)
          (booted_reached c.args.limits.now (state_of c.in-Ok.kept.state) range c.in-Ok.ensures);
    }
