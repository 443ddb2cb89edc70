use Rattle.std.proofs.Common.{ℕ, List, ap, sym, ◌∙◌}
use Rattle.shown_dumps.specs.Lines.{before_end, after_end}
use Rattle.shown_dumps.proofs.LineLaws.{before_first, after_first, before_none, after_none}
use Rattle.shown_dumps.proofs.why.lines.first_line.Goals as goal

pub returns : goal.returns
returns c = record {
  line = sym (ap (λ (l : List ℕ). before_end l) c.in-Some.ensures.parts ∙ before_first c.in-Some.line.now c.in-Some.rest.now c.in-Some.ensures.first);
  rest = sym (ap (λ (l : List ℕ). after_end l) c.in-Some.ensures.parts ∙ after_first c.in-Some.line.now c.in-Some.rest.now c.in-Some.ensures.first);
}

pub returns-in_default : goal.returns-in_default
returns-in_default c = record {
  line = sym (before_none c.args.text.now c.in_default.ensures.none);
  rest = sym (after_none c.args.text.now c.in_default.ensures.none);
}
