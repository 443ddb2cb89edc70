use Rattle.std.proofs.Common.{arith}
use Rattle.dump_text.specs.Event.{answered_text, IsAnswered}
use Rattle.dump_text.proofs.Readings.{not_filled}
use Rattle.dump_text.proofs.EventLemmas.{no_thread, no_number, thread_is, number_is}
use Rattle.dump_text.proofs.events.read_single.Goals as goal

pub returns-in_default : goal.returns-in_default
returns-in_default c = λ w is e. no_thread c.args.text.now c.args.text.now c.args.text.now w is e c.in_default.ensures.none

pub returns-in_default-parted : goal.returns-in_default-parted
returns-in_default-parted c = λ w is e. no_number c.args.text.now c.in-Some.thread.now c.in-Some.more.now w is e c.in-Some.ensures.parts c.in-Some.ensures.first c.in_default-parted.ensures.none

pub returns-in_default-read_number : goal.returns-in_default-read_number
returns-in_default-read_number c = λ w is e.
    let t = thread_is c.args.text.now c.in-Some.thread.now c.in-Some.more.now w is e c.in-Some.ensures.parts c.in-Some.ensures.first in
    let small = is.thread in
    c.in_default-read_number.ensures w.thread (omega arith) t.0

pub returns-in_default-read_number-2 : goal.returns-in_default-read_number-2
returns-in_default-read_number-2 c = λ w is e.
    let n = number_is c.args.text.now c.in-Some.thread.now c.in-Some.more.now w is e c.in-Some.ensures.parts c.in-Some.ensures.first c.in-Some-parted.number.now c.in-Some-parted.more.now c.in-Some-parted.ensures.parts c.in-Some-parted.ensures.first in
    let small = is.number in
    c.in_default-read_number-2.ensures w.number (omega arith) n.0

pub returns-then-not-branch : goal.returns-then-not-branch
returns-then-not-branch c = λ w is e.
    let n = number_is c.args.text.now c.in-Some.thread.now c.in-Some.more.now w is e c.in-Some.ensures.parts c.in-Some.ensures.first c.in-Some-parted.number.now c.in-Some-parted.more.now c.in-Some-parted.ensures.parts c.in-Some-parted.ensures.first in
    not_filled answered_text IsAnswered c.in-Some-parted.more.now c.read_answered.new.answered c.in_ok-read_answered.field-0 c.if-not-branch.true c.in_ok-read_answered.ensures w.answered is.answered n.1
