use Rattle.text_words.specs.declared.spoken_calls.args.ArgKind.TheVariants.{Object}
use Rattle.text_words.proofs.FurtherLemmas.{first_of_text, text_of_all, adds_not, adds_one, adds_none, adds_all}
use Rattle.text_words.proofs.spoken_calls.spoken.read_arguments.Goals as goal

pub returns-then-not-branch : goal.returns-then-not-branch
returns-then-not-branch c = λ found are e.
    let n = first_of_text c.args.kinds.now _ c.args.text.now c.first_word.result.0.now c.first_word.result.1.now found c.in-len1-up.len_at_least c.first_word.ensures.parts c.first_word.ensures.word c.first_word.ensures.rest are e in
    adds_not _ c.first_word.result.0.now c.in_ok-args.args.items c.add_arg.new.args.items c.in_ok-add_arg.field-0 c.if-not-branch.true c.in_ok-add_arg.ensures n.arg n.is_arg n.word_is_its

pub returns-then-not-branch-2 : goal.returns-then-not-branch-2
returns-then-not-branch-2 c = λ found are e.
    let n = first_of_text c.args.kinds.now Object c.args.text.now c.first_word.result.0.now c.first_word.result.1.now found c.in-len1-up.len_at_least c.first_word.ensures.parts c.first_word.ensures.word c.first_word.ensures.rest are e in
    adds_none _ c.first_word.result.1.now c.add_arg.new.args.items c.add_args.new.args.items c.in_ok-add_args.field-0 c.if-not-branch-2.true c.in_ok-add_args.ensures n.more n.are n.left_is

pub returns : goal.returns
returns c =
    text_of_all c.args.kinds.now _ c.args.text.now c.first_word.result.0.now c.first_word.result.1.now c.in_ok-args.args.items c.add_arg.new.args.items c.add_args.new.args.items c.in-len1-up.len_at_least c.first_word.ensures.parts c.in_ok-args.ensures.items
    (adds_one _ c.first_word.result.0.now c.in_ok-args.args.items c.add_arg.new.args.items c.in_ok-add_arg.field-0 c.if-not-branch.false c.in_ok-add_arg.ensures)
    (adds_all _ c.first_word.result.1.now c.add_arg.new.args.items c.add_args.new.args.items c.in_ok-add_args.field-0 c.if-not-branch-2.false c.in_ok-add_args.ensures)
