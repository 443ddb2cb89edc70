use Rattle.shown_dumps.proofs.PieceLaws.{next_line, last_line}
use Rattle.page_text.proofs.first_lines.first_line.Goals as goal

pub returns : goal.returns
returns c = record {
  some = next_line c.args.text.now c.in-Some.line.now c.in-Some.rest.now c.in-Some.ensures.parts c.in-Some.ensures.first;
  shorter = c.in-Some.ensures.shorter;
  none = tt;
}

pub returns-in_default : goal.returns-in_default
returns-in_default c = record {
  some = tt;
  shorter = tt;
  none = last_line c.args.text.now c.in_default.ensures.none;
}
