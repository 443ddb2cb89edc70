use Rattle.std.proofs.Common.{length, arith}
use Rattle.auditor.proofs.Turns.{steps_more, steps_end}
use Rattle.auditor.proofs.tracing.steps.steps_of.Goals as goal

pub loop-place-preserved : goal.loop-place-preserved
loop-place-preserved c =
    steps_more c.loop-place.place c.args.events.now c.index-events-place.result c.loop-place.rest.now c.part_reads.result.0.now c.part_reads.result.1.now
    c.loop-place.steps.items c.add_reads.new.steps.items c.add_event.new.steps.items _ c.loop-place-test.true c.index-events-place.is
    c.part_reads.ensures.here c.part_reads.ensures.past c.in_ok-add_reads.ensures c.in_ok-add_event.ensures c.loop-place.invariant

pub returns : goal.returns
returns c =
    steps_end c.loop-place.place (length c.args.events.now) c.args.events.now c.loop-place.rest.now c.part_reads-2.result.0.now
    c.loop-place.steps.items c.add_reads-2.new.steps.items _ (omega arith) (omega arith) c.part_reads-2.ensures.here c.in_ok-add_reads-2.ensures
    c.loop-place.invariant
