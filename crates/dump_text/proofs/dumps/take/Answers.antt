use Rattle.std.proofs.Common.{sym, ◌∙◌}
use Rattle.dump_text.proofs.Progress.{filled, not_next}
use Rattle.dump_text.proofs.dumps.take.Goals as goal

pub returns-in_default : goal.returns-in_default
returns-in_default c =
    let h = filled c.args.text.now c.read_line.new.line c.in_ok-read_line.field-0 c.if-not-branch.false c.in_ok-read_line.ensures in
    not_next c.args.text.now c.args.place c.read_line.new.line h.0 h.1 (sym c.next.ensures ∙ c.in_default.is)
