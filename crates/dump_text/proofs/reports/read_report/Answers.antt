use Rattle.text_words.proofs.WordLemmas.{not_so}
use Rattle.dump_text.proofs.ReportLemmas.{report_none}
use Rattle.dump_text.proofs.reports.read_report.Goals as goal

pub returns : goal.returns
returns c =
    report_none c.args.text.now (λ e. not_so c.is_same.result c.if-is_same.false (c.is_same.ensures.1 e))
    c.in_default.ensures c.in_default-number_after.ensures c.in_default-read_entered.ensures c.in_default-read_bytes.ensures c.in_default-read_refused.ensures
