use Rattle.std.proofs.Common.{◌++◌, ◌∷◌, [], List, ap, sym, ◌∙◌, append_assoc, arith}
use Rattle.kernel_rules.specs.Events.{Event}
use Rattle.shared_calls.specs.Dumps.{events_told}
use Rattle.shared_calls.proofs.tellings.tell_more.Goals as goal

pub loop-told-preserved : goal.loop-told-preserved
loop-told-preserved c =
    let loop = c.loop-told.invariant in
    let told = c.in_ok-event.ensures in
    let before : List Event = events_told c.args.telling.now in
    record {
      telling = told.telling;
      same = (told.same.0 ∙ loop.same.0, told.same.1 ∙ loop.same.1, told.same.2 ∙ loop.same.2, told.same.3 ∙ loop.same.3);
      events = told.event ∙ ap (λ (l : List Event). l ++ c.in_ok-event.event ∷ []) loop.events
          ∙ append_assoc before c.loop-told.events.items (c.in_ok-event.event ∷ [])
          ∙ ap (λ (l : List Event). before ++ l) (sym c.in_ok-push.ensures.items);
      count = omega (arith, loop.count, told.count);
    }
