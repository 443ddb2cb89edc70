use Rattle.std.proofs.Common.{Ok, IsErrOf}
use Rattle.plain_state.specs.declared.boots.BootRefusal.TheVariants.{BadLimits}
use Rattle.plain_state.specs.declared.states.PlainState.{PlainState}
use Rattle.flows.proofs.Pairing.{exact_for, rising_for}
use Rattle.plain_state.specs.StateOf.{state_of}
use Rattle.flows.proofs.checks.check_flows.Goals as goal

never : (s : PlainState) → IsErrOf (Ok s) BadLimits → ⊥
never s h = cc h

pub returns-in-Ok-flows_from-clause-rising : goal.returns-in-Ok-flows_from-clause-rising
returns-in-Ok-flows_from-clause-rising c =
    rising_for c.args.steps.now c.args.category.0 (state_of c.in-Ok.state) _ c.in-Ok-flows_from.ensures

pub returns-in-Ok-flows_from-clause-exact : goal.returns-in-Ok-flows_from-clause-exact
returns-in-Ok-flows_from-clause-exact c =
    exact_for c.args.limits.now c.args.steps.now c.args.category.0 (state_of c.in-Ok.state) _
    c.in-Ok.ensures.state (λ h. never c.in-Ok.state (c.in-Ok.ensures.limits.1 h)) c.in-Ok-flows_from.ensures
