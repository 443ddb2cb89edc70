use Rattle.check_text.proofs.Parts.{missing_call, other_call, not_suited, next_call}
use Rattle.check_text.proofs.line_faults.lines.fault_in_call.Goals as goal

pub returns-in_default : goal.returns-in_default
returns-in_default c = missing_call c.args.binds c.args.more c.args.text.now c.here.result c.in_default.ensures.none c.here.ensures

pub returns-in_default-verb_of : goal.returns-in_default-verb_of
returns-in_default-verb_of c =
    other_call c.args.binds c.args.more c.args.text.now c.in-Some.word.now c.in-Some.rest.now c.here-in_default-verb_of.result
    c.in-Some.ensures.parts c.in-Some.ensures.word c.in-Some.ensures.rest (λ is. c.in_default-verb_of.ensures is.0 tt is.2)
    c.here-in_default-verb_of.ensures

pub returns-then-not-suits : goal.returns-then-not-suits
returns-then-not-suits c =
    other_call c.args.binds c.args.more c.args.text.now c.in-Some.word.now c.in-Some.rest.now c.here-then-not-suits.result
    c.in-Some.ensures.parts c.in-Some.ensures.word c.in-Some.ensures.rest
    (not_suited c.args.binds c.args.more c.in-Some.word.now c.in-Some-verb_of.verb c.suits.result c.in-Some-verb_of.ensures.1 c.suits.ensures c.if-not-suits.true)
    c.here-then-not-suits.ensures

pub returns : goal.returns
returns c =
    next_call c.args.binds c.args.more c.args.text.now c.in-Some.word.now c.in-Some.rest.now c.in-Some-verb_of.verb c.kinds.result.now c.suits.result
    c.in_ok-found.found c.further.result c.in-Some.ensures.parts c.in-Some.ensures.word c.in-Some.ensures.rest c.in-Some-verb_of.ensures.1 c.suits.ensures c.if-not-suits.false
    c.kinds.ensures c.in_ok-found.ensures c.further.ensures
