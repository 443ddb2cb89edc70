use Rattle.std.proofs.Common.{sym, ◌∙◌}
use Rattle.kernel_rules.specs.Step.{next}
use Rattle.kernel_rules.specs.declared.calls.Call.TheVariants as call
use Rattle.kernel_store.proofs.CallLaws.{next_done}
use Rattle.memory_calls.proofs.devices.dev_recv.Goals as goal

pub returns-clause-state : goal.returns-clause-state
returns-clause-state g c =
    sym (next_done _ _ _ _ _ (g.met.S.Store.sound _) c.dev_recv.ensures.after
    c.refused_dev_recv.ensures.value c.in_default.is)
    ∙ (λ i. next (g.S.Store.state c.args.state.now) (c.find_all-named.ensures.caller i) (call.DevRecv (c.find_all-named.ensures.entry i)))
