use Rattle.std.proofs.Common.{ap, sym, ◌∙◌}
use Rattle.check_text.specs.Lines.{before_byte, after_byte}
use Rattle.check_text.proofs.LineLaws.{before_first, after_first, before_none, after_none}
use Rattle.check_text.proofs.lines.cut.Goals as goal

pub returns : goal.returns
returns c = record {
  before = sym (ap (before_byte c.args.byte) c.in-Some.ensures.parts ∙ before_first c.args.byte c.in-Some.before.now c.in-Some.after.now c.in-Some.ensures.first);
  after = sym (ap (after_byte c.args.byte) c.in-Some.ensures.parts ∙ after_first c.args.byte c.in-Some.before.now c.in-Some.after.now c.in-Some.ensures.first);
}

pub returns-in_default : goal.returns-in_default
returns-in_default c = record {
  before = sym (before_none c.args.byte c.args.text.now c.in_default.ensures.none);
  after = sym (after_none c.args.byte c.args.text.now c.in_default.ensures.none);
}
