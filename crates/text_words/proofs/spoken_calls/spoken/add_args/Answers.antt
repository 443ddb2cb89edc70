use Rattle.std.proofs.Common.{◌∙◌}
use Rattle.text_words.specs.declared.spoken_calls.args.ArgKind.TheVariants.{Object}
use Rattle.text_words.proofs.FurtherLemmas.{next_arg, no_space, one_read, adds_not, adds_same, adds_one}
use Rattle.text_words.proofs.spoken_calls.spoken.add_args.Goals as goal

pub returns-in_default : goal.returns-in_default
returns-in_default c = (
  no_space c.args.kinds.now c.args.text.now c.loop-kind.rest.now c.args.args.now.items c.loop-kind.args.items c.loop-kind.kind-index Object c.loop-kind.invariant c.loop-kind-test.true c.in_default.ensures.none,
  c.loop-kind.invariant.found,
  c.loop-kind.invariant.items_are,
)

pub returns-then-not-branch : goal.returns-then-not-branch
returns-then-not-branch c = (
  λ all are e.
      let n = next_arg c.args.kinds.now c.args.text.now c.loop-kind.rest.now c.in-Some.after.now c.first_word.result.0.now c.first_word.result.1.now c.args.args.now.items c.loop-kind.args.items c.loop-kind.kind-index _ c.loop-kind.invariant c.loop-kind-test.true
      c.in-Some.ensures.some c.first_word.ensures.parts c.first_word.ensures.word c.first_word.ensures.rest all are e in
      adds_not _ c.first_word.result.0.now c.loop-kind.args.items c.add_arg.new.args.items c.in_ok-add_arg.field-0 c.if-not-branch.true c.in_ok-add_arg.ensures n.arg n.is_arg n.word_is_its,
  c.loop-kind.invariant.found,
  adds_same _ c.first_word.result.0.now c.loop-kind.args.items c.add_arg.new.args.items c.in_ok-add_arg.field-0 c.if-not-branch.true c.in_ok-add_arg.ensures ∙ c.loop-kind.invariant.items_are,
)

pub loop-kind-preserved : goal.loop-kind-preserved
loop-kind-preserved c =
    let a = adds_one _ c.first_word.result.0.now c.loop-kind.args.items c.add_arg.new.args.items c.in_ok-add_arg.field-0 c.if-not-branch.false c.in_ok-add_arg.ensures in
    one_read c.args.kinds.now c.args.text.now c.loop-kind.rest.now c.in-Some.after.now c.first_word.result.0.now c.first_word.result.1.now c.args.args.now.items c.loop-kind.args.items c.add_arg.new.args.items c.loop-kind.kind-index _ a.arg c.loop-kind.invariant c.loop-kind-test.true
    c.in-Some.ensures.some c.first_word.ensures.parts c.first_word.ensures.word c.first_word.ensures.rest a.is_arg a.word_is_its a.new_is
