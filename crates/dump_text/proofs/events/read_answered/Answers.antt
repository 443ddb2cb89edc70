use Rattle.text_words.proofs.ReadLemmas.{read_not}
use Rattle.dump_text.specs.Call.{call_text, IsCall}
use Rattle.dump_text.proofs.EventLemmas.{no_call, answer_same}
use Rattle.dump_text.proofs.events.read_answered.Goals as goal

pub returns-in_default : goal.returns-in_default
returns-in_default c = λ w is e. no_call c.args.text.now w is e c.in_default.ensures.none

pub returns-in_default-read_report : goal.returns-in_default-read_report
returns-in_default-read_report c = λ w is e.
    let a = answer_same c.args.text.now w is e c.in-Some.call.now c.in-Some.reply.now c.in-Some.ensures.parts c.in-Some.ensures.lacks in
    c.in_default-read_report.ensures w.reply is.reply a.1

pub returns-in_default-2 : goal.returns-in_default-2
returns-in_default-2 c = λ w is e.
    let a = answer_same c.args.text.now w is e c.in-Some.call.now c.in-Some.reply.now c.in-Some.ensures.parts c.in-Some.ensures.lacks in
    read_not call_text IsCall c.in-Some.call.now c.in_ok-call.field-0 c.in_default-2.is c.in_ok-call.ensures w.call is.call a.0
