use Rattle.std.proofs.Common.{◌++◌, List, length, arith, ap, sym, ◌∙◌, subst}
use Rattle.std.specs.List.{AllByRecursion}
use Rattle.call_text.specs.Text.{lines_text}
use Rattle.dump_text.specs.Fits.{FitsLine}
use Rattle.dump_text.specs.Line.{line_text}
use Rattle.dump_text.specs.declared.lines.Line.{Line}
use Rattle.dump_text.proofs.Placing.{history_told}
use Rattle.dump_text.proofs.EventLines.{history_more, fits_more, history_end, fits_end}
use Rattle.dump_text.proofs.writing.put_history.Goals as goal

pub loop-place-preserved : goal.loop-place-preserved
loop-place-preserved c = record {
  text = history_more c.loop-place.place c.args.events.now c.index-events-place.result c.loop-place.rest.now c.part_reads.result.0.now c.part_reads.result.1.now
      c.loop-place.out.items c.put_each.new.out.items c.put_event.new.out.items _ c.loop-place-test.true c.index-events-place.is
      c.part_reads.ensures.here c.part_reads.ensures.past c.in_ok-put_each.ensures.text c.in_ok-put_event.ensures.text c.loop-place.invariant.text;
  fits = fits_more c.loop-place.place c.args.events.now c.index-events-place.result c.loop-place.rest.now c.part_reads.result.0.now c.part_reads.result.1.now
      _ c.loop-place-test.true c.index-events-place.is c.part_reads.ensures.here c.part_reads.ensures.past c.in_ok-put_each.ensures.lines c.in_ok-put_event.ensures.fits
      c.loop-place.invariant.fits;
}

pub returns-clause-text : goal.returns-clause-text
returns-clause-text c =
    history_end c.loop-place.place (length c.args.events.now) c.args.events.now c.loop-place.rest.now c.part_reads-2.result.0.now
    c.loop-place.out.items c.put_each-2.new.out.items _ (omega arith) (omega arith) c.part_reads-2.ensures.here c.in_ok-put_each-2.ensures.text c.loop-place.invariant.text
    ∙ ap (λ (ls : List Line). c.args.out.now.items ++ lines_text line_text ls) (sym (history_told c.args.events.now c.args.reads.now))

pub returns-clause-fits : goal.returns-clause-fits
returns-clause-fits c =
    subst (λ (ls : List Line). AllByRecursion FitsLine ls) (sym (history_told c.args.events.now c.args.reads.now))
    (fits_end c.loop-place.place (length c.args.events.now) c.args.events.now c.loop-place.rest.now c.part_reads-2.result.0.now
    _ (omega arith) (omega arith) c.part_reads-2.ensures.here c.in_ok-put_each-2.ensures.lines c.loop-place.invariant.fits)
