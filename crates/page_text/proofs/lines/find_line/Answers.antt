use Rattle.std.proofs.Common.{sym, ◌∙◌, arith}
use Rattle.shown_dumps.specs.Pieces.{lines_of}
use Rattle.page_text.proofs.LineLaws.{left_after, place_past}
use Rattle.page_text.proofs.lines.find_line.Goals as goal

pub returns-then-eq-clause-rest : goal.returns-then-eq-clause-rest
returns-then-eq-clause-rest c =
    left_after (lines_of c.args.text.now) (lines_of c.lines.rest.now) (lines_of c.in-Some.more.now) c.lines.count
    c.in-Some.first.now c.lines.invariant.rest c.in-Some.ensures.some

pub lines-preserved : goal.lines-preserved
lines-preserved c = record {
  place = place_past (lines_of c.args.text.now) (lines_of c.lines.rest.now) (lines_of c.in-Some.more.now) c.lines.count
      c.in-Some.first.now c.args.line.now (sym c.eq.ensures ∙ c.if-eq.false) c.lines.invariant.place c.in-Some.ensures.some;
  rest = left_after (lines_of c.args.text.now) (lines_of c.lines.rest.now) (lines_of c.in-Some.more.now) c.lines.count
      c.in-Some.first.now c.lines.invariant.rest c.in-Some.ensures.some;
  few = omega (arith, c.lines.invariant.few, c.in-Some.ensures.shorter);
}
