use Rattle.std.proofs.Common.{[], ◌∙◌, ap}
use Rattle.plain_state.specs.StateOf.{state_of}
use Rattle.flows.specs.Carriers.{reached}
use Rattle.flows.proofs.Pairing.{reached_for, reached_rising}
use Rattle.flows.proofs.checks.flows_of.Goals as goal

pub returns-clause-rising : goal.returns-clause-rising
returns-clause-rising c =
    reached_rising (state_of c.args.state) c.args.steps.now c.args.category.0 c.args.start _
    (c.in_ok-ids.ensures
    ∙ ap (reached c.args.start [] []) (c.deref.ensures.value ∙ c.in_ok-touches.ensures))

pub returns-clause-exact : goal.returns-clause-exact
returns-clause-exact c =
    reached_for (state_of c.args.state) c.args.steps.now c.args.category.0 c.args.start _
    c.well_formed-2.ensures
    (c.in_ok-ids.ensures
    ∙ ap (reached c.args.start [] []) (c.deref.ensures.value ∙ c.in_ok-touches.ensures))
