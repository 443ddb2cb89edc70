use Rattle.std.proofs.Common.{◌≡◌, ◌∙◌, sym, ap, subst, List, length, take, refl}
use Rattle.text_words.specs.declared.spoken_calls.args.Arg.{Arg}
use Rattle.text_words.specs.declared.spoken_calls.args.ArgKind.{ArgKind}
use Rattle.text_words.specs.Spoken.{AreArgs}
use Rattle.text_words.specs.Verb.{kinds_of}
use Rattle.text_words.proofs.SpokenLemmas.{verb_is}
use Rattle.text_words.proofs.FurtherLemmas.{call_parts, call_whole, adds_none, adds_some, adds_all}
use Rattle.text_words.proofs.spoken_calls.spoken.read_spoken.Goals as goal

pub returns-in_default : goal.returns-in_default
returns-in_default c = (
  refl,
  λ v is e.
      let p = call_parts c.args.line.now c.first_word.result.0.now c.first_word.result.1.now v c.first_word.ensures.parts c.first_word.ensures.word c.first_word.ensures.rest e in
      c.in_default.ensures v.verb tt p.0,
)

pub returns-then-not-branch : goal.returns-then-not-branch
returns-then-not-branch c = (
  c.truncate.ensures.items ∙ ap (λ (xs : List Arg). take (length xs) c.add_args.new.args.items) c.as_slice-before.ensures.value
      ∙ adds_some c.kinds.result.now c.first_word.result.1.now c.args.args.now.items c.add_args.new.args.items c.in_ok-add_args.field-0 c.if-not-branch.true c.in_ok-add_args.ensures,
  λ v is e.
      let p = call_parts c.args.line.now c.first_word.result.0.now c.first_word.result.1.now v c.first_word.ensures.parts c.first_word.ensures.word c.first_word.ensures.rest e in
      let same = verb_is v.verb c.in-Some.verb (sym p.0 ∙ c.in-Some.ensures.1) in
      let kinds : c.kinds.result.now ≡ kinds_of v.verb = c.kinds.ensures ∙ ap kinds_of (sym same) in
      adds_none c.kinds.result.now c.first_word.result.1.now c.args.args.now.items c.add_args.new.args.items c.in_ok-add_args.field-0 c.if-not-branch.true c.in_ok-add_args.ensures v.args
      (subst (λ (ks : List ArgKind). AreArgs ks v.args) (sym kinds) is) p.1,
)

pub returns : goal.returns
returns c =
    call_whole c.args.line.now c.first_word.result.0.now c.first_word.result.1.now c.in-Some.verb c.args.args.now.items c.add_args.new.args.items c.kinds.result.now c.kinds.ensures c.first_word.ensures.parts c.in-Some.ensures.1
    (adds_all c.kinds.result.now c.first_word.result.1.now c.args.args.now.items c.add_args.new.args.items c.in_ok-add_args.field-0 c.if-not-branch.false c.in_ok-add_args.ensures)
