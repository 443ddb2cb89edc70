use Rattle.std.proofs.Common.{◌++◌, ◌∙◌, ap, List}
use Rattle.kernel_rules.specs.Events.{Event}
use Rattle.kernel_rules.specs.declared.histories.events.Answered.{Answered}
use Rattle.hidden_replies.specs.Places.{placed_by}
use Rattle.hidden_replies.proofs.places.place_event.Goals as goal

pub returns : goal.returns
returns c =
    c.in_ok-place_calls.ensures
    ∙ ap (λ (l : List Answered). c.args.all.now.items ++ placed_by c.args.place 1 c.event.inside.thread l) c.as_slice.ensures.value
    ∙ ap (λ (e : Event). c.args.all.now.items ++ placed_by c.args.place 1 e.thread e.calls) c.event.view_is
