use Rattle.check_text.proofs.Parts.{missing_arg, other_arg, next_arg}
use Rattle.check_text.proofs.line_faults.lines.+fault_in_arguments.Goals as goal

pub returns-in_default-next_word : goal.returns-in_default-next_word
returns-in_default-next_word t c =
    missing_arg c.args.kinds.now _ c.args.text.now c.here-in_default-next_word.result c.in-len1-up.len_at_least c.in_default-next_word.ensures.none
    c.here-in_default-next_word.ensures

pub returns-then-not-branch : goal.returns-then-not-branch
returns-then-not-branch t c =
    other_arg c.args.kinds.now _ c.args.text.now c.in-Some.word.now c.in-Some.rest.now c.in_ok-is_argument.field-0 c.here-then-not-branch.result
    c.in-len1-up.len_at_least c.in-Some.ensures.parts c.in-Some.ensures.word c.in-Some.ensures.rest c.if-not-branch.true
    c.in_ok-is_argument.ensures c.here-then-not-branch.ensures

pub returns : goal.returns
returns t c =
    next_arg c.args.kinds.now _ c.args.text.now c.in-Some.word.now c.in-Some.rest.now c.in_ok-is_argument.field-0 c.in_ok-found.found c.further.result
    c.in-len1-up.len_at_least c.in-Some.ensures.parts c.in-Some.ensures.word c.in-Some.ensures.rest c.if-not-branch.false c.in_ok-is_argument.ensures c.in_ok-found.ensures c.further.ensures
