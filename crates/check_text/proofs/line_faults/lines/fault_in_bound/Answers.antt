use Rattle.std.proofs.Common.{◌≡◌, true, false, refl}
use Rattle.check_text.proofs.Parts.{missing_equals, other_equals, next_equals}
use Rattle.check_text.proofs.line_faults.lines.fault_in_bound.Goals as goal

pub returns-in_default : goal.returns-in_default
returns-in_default c = missing_equals c.args.text.now c.here.result c.in_default.ensures.none c.here.ensures

pub returns-then-not-is_same : goal.returns-then-not-is_same
returns-then-not-is_same c =
    other_equals c.args.text.now c.in-Some.word.now c.in-Some.rest.now c.here-then-not-is_same.result
    c.in-Some.ensures.parts c.in-Some.ensures.word c.in-Some.ensures.rest (λ is. let e : false ≡ true = c.if-not-is_same.ensures.1 is in cc)
    c.here-then-not-is_same.ensures

pub returns : goal.returns
returns c =
    next_equals c.args.text.now c.in-Some.word.now c.in-Some.rest.now c.in_ok-found.found c.further.result
    c.in-Some.ensures.parts c.in-Some.ensures.rest (c.if-not-is_same.ensures.0 refl) c.in_ok-found.ensures c.further.ensures
