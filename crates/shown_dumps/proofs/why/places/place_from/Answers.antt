use Rattle.std.proofs.Common.{◌+◌, ◌-◌, List, Some, length, drop, ap, sym, ◌∙◌}
use Rattle.dump_text.specs.declared.tables.PlacedRead.{PlacedRead}
use Rattle.shown_dumps.proofs.PlaceLaws.{asked, here, further}
use Rattle.shown_dumps.specs.Places.{place_from}
use Rattle.shown_dumps.specs.declared.why.places.Content.TheVariants.{Calls}
use Rattle.shown_dumps.specs.declared.why.places.Place.{Place}
use Rattle.shown_dumps.proofs.why.places.place_from.Goals as goal

pub loop-number-preserved : goal.loop-number-preserved
loop-number-preserved c =
    ap (λ (rs : List PlacedRead). place_from (c.loop-number.number + 1) (drop (c.loop-number.number + 1) c.args.events.now) rs
    (c.loop-number.left - length c.part_reads.result.0.now - c.event_line_count-count.result)) c.part_reads.ensures.past
    ∙ sym (further c.loop-number.number c.loop-number.left (length c.part_reads.result.0.now) c.event_line_count-count.result
    c.index-events-number.result c.args.events.now c.loop-number.rest.now c.loop-number-test.true c.index-events-number.is
    (ap length c.part_reads.ensures.here) c.if-left-asked.false c.event_line_count-count.ensures c.if-left-count.false)
    ∙ c.loop-number.invariant

pub returns-then-left-asked : goal.returns-then-left-asked
returns-then-left-asked c =
    c.read_in.ensures
    ∙ asked c.loop-number.number c.loop-number.left c.part_reads.result.0.now c.index-events-number.result c.args.events.now
    c.loop-number.rest.now c.loop-number-test.true c.index-events-number.is c.part_reads.ensures.here c.if-left-asked.true
    ∙ c.loop-number.invariant

pub returns-then-left-count : goal.returns-then-left-count
returns-then-left-count c =
    ap (λ (p : Place). Some (Calls p)) c.place_in.ensures
    ∙ here c.loop-number.number c.loop-number.left (length c.part_reads.result.0.now) c.event_line_count-count.result
    c.index-events-number.result c.args.events.now c.loop-number.rest.now c.loop-number-test.true c.index-events-number.is
    (ap length c.part_reads.ensures.here) c.if-left-asked.false c.event_line_count-count.ensures c.if-left-count.true
    ∙ c.loop-number.invariant
