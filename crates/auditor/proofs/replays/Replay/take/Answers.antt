use Rattle.std.proofs.Common.{◌≡◌, ◌+◌, ap, ◌∙◌, ◌++◌, ◌∷◌, [], List, ℕ, map, subst, arith}
use Rattle.kernel_rules.specs.History.{answered}
use Rattle.kernel_rules.specs.Events.{Event, by}
use Rattle.kernel_rules.specs.declared.histories.events.Answered.{Answered}
use Rattle.kernel_rules.specs.Runs.{state_after}
use Rattle.plain_core.specs.Kernel.{kernel_state}
use Rattle.auditor.specs.Replay.{Takes}
use Rattle.auditor.proofs.CountLaws.{replay_more, true_is}
use Rattle.auditor.proofs.replays.Replay.take.Goals as goal

pub returns-clause-taken : goal.returns-clause-taken
returns-clause-taken c = λ taken start was.
    let old = c.args.self.now in
    let seen : Event = record {
      thread = c.event.inside.thread;
      number = c.event.inside.number;
      calls = c.event.inside.calls.items;
    } in
    let next : c.in-Some.number ≡ c.last_of.result + 1 = omega (arith, c.in-Some.ensures) in
    let number_is = next ∙ ap (λ (k : ℕ). k + 1) c.last_of.ensures in
    let made = c.in_ok-calls.ensures.answers
    ∙ ap (λ (l : List Answered). answered (kernel_state old.kernel) seen.thread (map (λ a. a.call) l)) c.as_slice.ensures.value in
    let stepped = c.in_ok-calls.ensures.state
    ∙ ap (λ (l : List Answered). state_after (kernel_state old.kernel) (by seen.thread (map (λ a. a.call) l))) c.as_slice.ensures.value in
    let added = c.in_ok-push.ensures.items
    ∙ ap (λ (x : Event). old.events.items ++ x ∷ [])
    (true_is start old seen c.in-Some.number c.in_ok-calls.calls.items was number_is made) in
    subst (λ (e : Event). Takes start old e (record {
      kernel = c.make.new.kernel;
      meter = c.make.new.meter;
      events = c.push.new.self;
      counts = c.insert.new.self;
    })) c.event.view_is
    (replay_more start old (record {
      kernel = c.make.new.kernel;
      meter = c.make.new.meter;
      events = c.push.new.self;
      counts = c.insert.new.self;
    }) seen c.number.result c.in-Some.number was c.number.ensures number_is c.in_ok-insert.ensures.updates stepped added)
