use Rattle.text_words.proofs.ReadLemmas.{read_not}
use Rattle.dump_text.specs.Query.{query_text, IsQuery}
use Rattle.dump_text.specs.ReadReply.{read_reply_text, IsReadReply}
use Rattle.dump_text.proofs.ReadLemmas.{no_query, asked_same}
use Rattle.dump_text.proofs.reads.read_asked.Goals as goal

pub returns-in_default : goal.returns-in_default
returns-in_default c = λ r query reply e. no_query c.args.text.now r query e c.in_default.ensures.none

pub returns-in_default-2 : goal.returns-in_default-2
returns-in_default-2 c = λ r query reply e.
    let a = asked_same c.args.text.now r query e c.in-Some.query.now c.in-Some.reply.now c.in-Some.ensures.parts c.in-Some.ensures.lacks in
    read_not query_text IsQuery c.in-Some.query.now c.in_ok-query.field-0 c.in_default-2.is c.in_ok-query.ensures r.query query a.0

pub returns-in_default-3 : goal.returns-in_default-3
returns-in_default-3 c = λ r query reply e.
    let a = asked_same c.args.text.now r query e c.in-Some.query.now c.in-Some.reply.now c.in-Some.ensures.parts c.in-Some.ensures.lacks in
    read_not read_reply_text IsReadReply c.in-Some.reply.now c.in_ok-reply.field-0 c.in_default-3.is c.in_ok-reply.ensures r.reply reply a.1
