use Rattle.std.proofs.Common.{◌≡◌, ℕ, List, IfOk, ap, subst, ◌∙◌}
use Rattle.page_text.proofs.FloatLaws.{no_float}
use Rattle.page_text.specs.Page.{shown_data, framed}
use Rattle.page_text.specs.Steps.{Step, turns, steps_of}
use Rattle.page_text.specs.Told.{told_in}
use Rattle.plain_state.specs.StateOf.{state_of}
use Rattle.serde_json.specs.Data.{Data}
use Rattle.serde_json.specs.View.{view}
use Rattle.serde_json.specs.Written.{has_float, compact_text}
use Rattle.page_text.proofs.pages.page_of.Goals as goal

pub returns : goal.returns
returns c =
    let steps : List Step =
    steps_of c.args.source.now.names.now (told_in c.args.source.now.text.now) (state_of c.args.state) (turns c.args.source.now.events.now c.args.source.now.reads.now) in
    let is : view c.in_ok-shown.shown ≡ shown_data c.args.source.now.names.now c.args.flow c.args.source.now.reached.now steps =
    c.in_ok-shown.ensures steps c.in_ok-steps.ensures in
    subst (λ (l : List ℕ). IfOk c.framed.result (λ told. told.items ≡ framed l))
    (c.as_slice.ensures.value
    ∙ (c.in_ok-told.ensures
    (ap (λ (d : Data). has_float d) is ∙ no_float c.args.source.now.names.now c.args.flow c.args.source.now.reached.now steps)
    ∙ ap (λ (d : Data). compact_text d) is))
    c.framed.ensures
