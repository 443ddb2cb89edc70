use Rattle.std.proofs.Common.{◌≡◌, ◌∙◌, List, ℕ, Option, ap, subst, sym}
use Rattle.histar_audit.proofs.LabelLaws.{label_reads, line_of}
use Rattle.histar_audit.specs.Labels.{label_set, ReadsLabel}
use Rattle.dump_text.specs.Call.{call_text, IsCall}
use Rattle.label_lattice.specs.Label.{LabelValue}
use Rattle.text_words.specs.Reading.{Reads}
use Rattle.histar_audit.proofs.audit_program.labels.read_label.Goals as goal

pub returns : goal.returns
returns c =
    let at : c.as_slice.result.now ≡ line_of c.args.text.now = c.as_slice.ensures.value ∙ c.in_ok-line.ensures in
    subst (ReadsLabel c.args.text.now) (sym c.label_set.ensures)
    (label_reads c.args.text.now c.as_slice.result.now c.in_ok-call.call at c.in_ok-call.ensures)
