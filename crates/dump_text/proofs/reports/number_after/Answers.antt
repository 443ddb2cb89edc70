use Rattle.dump_text.proofs.ReportLemmas.{number_reads}
use Rattle.dump_text.proofs.reports.number_after.Goals as goal

pub returns : goal.returns
returns c = number_reads c.args.beginning.now c.args.text.now c.in-Some.digits.now c.read_number.result c.in-Some.ensures.some c.read_number.ensures
