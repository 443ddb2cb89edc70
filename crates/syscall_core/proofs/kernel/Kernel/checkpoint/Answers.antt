use Rattle.std.proofs.Common.{◌≡◌, ◌∙◌, IfOk, sym, subst}
use Rattle.base.specs.declared.ranges.Limits.{Limits}
use Rattle.arena_state.specs.States.{state_of}
use Rattle.checkpoints.specs.Restored.{restored}
use Rattle.syscall_core.proofs.CheckpointLaws.{all_fit}
use Rattle.syscall_core.proofs.kernel.Kernel.checkpoint.Goals as goal

pub written-requires-clause-plain : goal.written-requires-clause-plain
written-requires-clause-plain c = (c.args.self.now.reached tt).sound.plain

pub written-requires-clause-limits : goal.written-requires-clause-limits
written-requires-clause-limits c = (c.args.self.now.reached tt).same ∙ sym c.limits.ensures

pub returns-clause-state : goal.returns-clause-state
returns-clause-state c =
    let k = c.args.self.now in
    subst (λ (l : Limits). IfOk c.written.result (λ made. restored l made ≡ state_of k.kept.state))
    (c.limits.ensures ∙ sym (k.reached tt).same) c.written.ensures.value

pub returns-clause-fit : goal.returns-clause-fit
returns-clause-fit c = λ numbered.
    let k = c.args.self.now in
    all_fit k.origin k.kept.state c.written.result c.args.next.items (k.reached tt)
    (subst (λ (l : Limits). IfOk c.written.result (λ made. restored l made ≡ state_of k.kept.state)) c.limits.ensures c.written.ensures.value)
    c.written.ensures.next c.written.ensures.slots numbered
