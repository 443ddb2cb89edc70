use Rattle.std.proofs.Common.{arith, ap, sym, ◌∙◌, decimal}
use Rattle.dump_text.proofs.ReadLemmas.{no_thread, thread_is, read_whole}
use Rattle.dump_text.proofs.reads.read_read.Goals as goal

pub returns-in_default : goal.returns-in_default
returns-in_default c = λ r is e. no_thread c.args.text.now r e c.in_default.ensures.none

pub returns-in_default-read_number : goal.returns-in_default-read_number
returns-in_default-read_number c = λ r is e.
    let t = thread_is c.args.text.now c.in-Some.thread.now c.in-Some.more.now r is.thread e c.in-Some.ensures.parts c.in-Some.ensures.first in
    let small = is.thread in
    c.in_default-read_number.ensures r.thread (omega arith) t.0

pub returns : goal.returns
returns c =
    let small = c.in-Some-read_number.ensures.0 in
    read_whole c.args.text.now c.in-Some.thread.now c.in-Some.more.now c.new.result c.in_ok-found.found c.in-Some.ensures.parts c.in-Some.ensures.first
    (c.in-Some-read_number.ensures.1 ∙ ap decimal (sym c.new.ensures)) (omega (arith, small, c.new.ensures)) c.in_ok-found.ensures
