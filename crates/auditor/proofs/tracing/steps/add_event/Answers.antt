use Rattle.std.proofs.Common.{◌++◌, ◌∙◌, ap, List}
use Rattle.kernel_rules.specs.Events.{Event}
use Rattle.kernel_rules.specs.declared.histories.events.Answered.{Answered}
use Rattle.auditor.specs.Steps.{steps_by}
use Rattle.auditor.proofs.tracing.steps.add_event.Goals as goal

pub returns : goal.returns
returns c =
    c.in_ok-add_calls.ensures
    ∙ ap (λ (l : List Answered). c.args.steps.now.items ++ steps_by c.event.inside.thread l) c.as_slice.ensures.value
    ∙ ap (λ (e : Event). c.args.steps.now.items ++ steps_by e.thread e.calls) c.event.view_is
