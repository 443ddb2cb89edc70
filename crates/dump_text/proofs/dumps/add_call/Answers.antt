use Rattle.std.proofs.Common.{◌++◌, ◌∷◌, [], ap, sym, ◌∙◌}
use Rattle.kernel_rules.specs.Events.{Event}
use Rattle.dump_text.specs.Reading.{with_call}
use Rattle.dump_text.proofs.Told.{call_push}
use Rattle.dump_text.proofs.dumps.add_call.Goals as goal

pub returns-in_ok-push-2 : goal.returns-in_ok-push-2
returns-in_ok-push-2 c =
    let calls = c.in_ok-push.ensures ∙ ap (λ (e : Event). e.calls ++ c.args.answered.now ∷ []) c.event.view_is in
    c.in_ok-push-2.ensures.items
    ∙ (λ i. c.pop.new.self.items ++ record {
      thread = (c.event.view_is i).thread;
      number = (c.event.view_is i).number;
      calls = calls i;
    } ∷ [])
    ∙ sym (call_push c.args.answered.now c.pop.new.self.items c.in-Some.event)
    ∙ sym (ap (with_call c.args.answered.now) c.in-Some.ensures.items)
