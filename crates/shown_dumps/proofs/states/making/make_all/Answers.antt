use Rattle.std.proofs.Common.{◌∙◌}
use Rattle.plain_state.specs.StateOf.{state_of}
use Rattle.shown_dumps.proofs.CallLaws.{played_more}
use Rattle.shown_dumps.proofs.states.making.make_all.Goals as goal

pub loop-event-preserved : goal.loop-event-preserved
loop-event-preserved c =
    played_more c.args.events.now c.loop-event.event-index c.event-item.result
    (state_of c.loop-event.state) (state_of c.make_event.new.state) c.loop-event-test.true c.event-item.is
    c.in_ok-make_event.ensures
    ∙ c.loop-event.invariant
