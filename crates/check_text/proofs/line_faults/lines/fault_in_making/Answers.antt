use Rattle.check_text.proofs.Parts.{missing_worker, other_worker, next_worker}
use Rattle.check_text.proofs.line_faults.lines.fault_in_making.Goals as goal

pub returns-in_default : goal.returns-in_default
returns-in_default c = missing_worker c.args.text.now c.here.result c.in_default.ensures.none c.here.ensures

pub returns-in_default-batch_mark : goal.returns-in_default-batch_mark
returns-in_default-batch_mark c =
    other_worker c.args.text.now c.in-Some.word.now c.in-Some.rest.now c.here-in_default-batch_mark.result
    c.in-Some.ensures.parts c.in-Some.ensures.word c.in-Some.ensures.rest c.in_default-batch_mark.ensures
    c.here-in_default-batch_mark.ensures

pub returns : goal.returns
returns c =
    next_worker c.in-Some-batch_mark.more c.args.text.now c.in-Some.word.now c.in-Some.rest.now c.in_ok-found.found c.further.result
    c.in-Some.ensures.parts c.in-Some.ensures.word c.in-Some.ensures.rest c.in-Some-batch_mark.ensures c.in_ok-found.ensures c.further.ensures
