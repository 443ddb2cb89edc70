use Rattle.std.proofs.Common.{◌∙◌, sym, ap, arith}
use Rattle.call_text.specs.ReplyWord.{refusal_text}
use Rattle.dump_text.proofs.ReportLemmas.{listed}
use Rattle.dump_text.proofs.reports.refusal_in.Goals as goal

pub returns : goal.returns
returns c = λ v is e.
    let place = listed v is in
    let within = place.1 in
    let done = c.loop-refusal-test.false in
    c.loop-refusal.invariant place.0 (omega arith) (e ∙ sym (ap refusal_text place.2))
