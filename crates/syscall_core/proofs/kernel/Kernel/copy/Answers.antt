use Rattle.std.proofs.Common.{◌∙◌, sym, subst}
use Rattle.base.specs.declared.ranges.Limits.{Limits}
use Rattle.arena_state.specs.States.{state_of}
use Rattle.syscall_core.specs.Restored.{IsReached}
use Rattle.syscall_core.proofs.CheckpointLaws.{reached_holdable}
use Rattle.syscall_core.proofs.kernel.Kernel.copy.Goals as goal

pub copied-requires-clause-holdable : goal.copied-requires-clause-holdable
copied-requires-clause-holdable c =
    let k = c.args.self.now in
    reached_holdable k.origin k.kept.state (k.reached tt)

pub copied-requires-clause-limits : goal.copied-requires-clause-limits
copied-requires-clause-limits c = (c.args.self.now.reached tt).same ∙ sym c.limits.ensures

pub invariant_of-result : goal.invariant_of-result
invariant_of-result c =
    let k = c.args.self.now in
    record {
      reached = λ u. subst (λ (l : Limits). IsReached l (state_of c.in_ok-kept.kept.state)) (sym (c.new.ensures ∙ c.limits-2.ensures))
          (subst (IsReached k.origin) (sym c.in_ok-kept.ensures) (k.reached tt));
    }
