use Rattle.std.proofs.Common.{◌∙◌}
use Rattle.text_words.proofs.IntoLemmas.{into_not}
use Rattle.call_text.specs.Line.{said_with, said_text, IsSaid, bound_with, bound_text, IsBound}
use Rattle.call_text.proofs.LineLemmas.{no_line}
use Rattle.text_words.proofs.WordLemmas.{not_so}
use Rattle.call_text.proofs.lines.read_line.Goals as goal

pub returns-in_default-2 : goal.returns-in_default-2
returns-in_default-2 c =
    let said = into_not said_with said_text IsSaid c.args.text.now c.args.args.now.items c.read_said.new.args.items c.in_ok-worker.field-0 c.in_default.is c.in_ok-worker.ensures in
    let bound = into_not bound_with bound_text IsBound c.args.text.now c.read_said.new.args.items c.read_bound.new.args.items c.in_ok-name.field-0 c.in_default-2.is c.in_ok-name.ensures in
    (bound.0 ∙ said.0, no_line c.args.text.now (λ e. not_so c.is_same.result c.if-is_same.false (c.is_same.ensures.1 e)) said.1 bound.1)
