use Rattle.std.proofs.Common.{◌≡◌, true, false, refl, sym, subst}
use Rattle.text_words.specs.Name.{IsName}
use Rattle.check_text.proofs.Parts.{next_break, next_saying, next_bound, other_line}
use Rattle.check_text.proofs.line_faults.lines.fault_in.Goals as goal

pub returns-then-is_same : goal.returns-then-is_same
returns-then-is_same c =
    next_break c.args.line.now c.first_word.result.0.now c.first_word.result.1.now c.in_ok-fault_in_arguments.field-0 c.further.result
    c.first_word.ensures.parts c.first_word.ensures.rest (c.if-is_same.ensures.0 refl) c.in_ok-fault_in_arguments.ensures c.further.ensures

pub returns-in-Some : goal.returns-in-Some
returns-in-Some c =
    next_saying c.in-Some.more c.args.line.now c.first_word.result.0.now c.first_word.result.1.now c.in_ok-found.found c.further-in-Some.result
    c.first_word.ensures.parts c.first_word.ensures.word c.first_word.ensures.rest c.in-Some.ensures c.in_ok-found.ensures c.further-in-Some.ensures

pub returns-in-Some-read_name : goal.returns-in-Some-read_name
returns-in-Some-read_name c =
    next_bound c.args.line.now c.first_word.result.0.now c.first_word.result.1.now c.in_ok-found-2.found c.further-in-Some-read_name.result
    c.first_word.ensures.parts c.first_word.ensures.word c.first_word.ensures.rest (subst IsName (sym c.in-Some-read_name.ensures.1) c.in-Some-read_name.ensures.0) c.in_ok-found-2.ensures
    c.further-in-Some-read_name.ensures

pub returns : goal.returns
returns c =
    other_line c.args.line.now c.first_word.result.0.now c.first_word.result.1.now c.here.result
    c.first_word.ensures.parts c.first_word.ensures.word c.first_word.ensures.rest
    (λ is. let e : false ≡ true = c.if-is_same.ensures.1 is in cc)
    (λ is. c.in_default-read_name.ensures c.first_word.result.0.now is refl) c.in_default.ensures
    c.here.ensures
