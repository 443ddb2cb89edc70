use Rattle.std.proofs.Common.{◌≡◌, ◌∙◌, sym, ap}
use Rattle.text_words.specs.TypeWord.{letters}
use Rattle.text_words.proofs.TypeLemmas.{letter_read, letter_passed}
use Rattle.text_words.proofs.type_words.spells.Goals as goal
use Rattle.text_words.proofs.type_words.spells.Goals.{then-has+in-len1-up+else-first-letter, else-has}

pub loop-letter-preserved : goal.loop-letter-preserved
loop-letter-preserved c = elim c.if-has.branch [
  | then-has+in-len1-up+else-first-letter w ↦
      let step = letter_read c.args.set letters c.loop-letter.letter-index _ c.loop-letter.rest.now c.if-has.rest.now c.loop-letter-test.true (sym c.has.ensures ∙ w.if-has.true) w.in-len1-up.len_at_least w.if-first-letter.false (ap (λ r. r.now) w.rest-is) in
      record { onward = λ e. step.0 (c.loop-letter.invariant.onward e); back = λ e. c.loop-letter.invariant.back (step.1 e) }
  | else-has w ↦
      let passed = letter_passed c.args.set letters c.loop-letter.letter-index _ c.loop-letter-test.true (sym c.has.ensures ∙ w.if-has.false) in
      let same : c.if-has.rest.now ≡ c.loop-letter.rest.now = ap (λ r. r.now) w.rest-is in
      record { onward = λ e. same ∙ c.loop-letter.invariant.onward e ∙ passed; back = λ e. c.loop-letter.invariant.back (sym same ∙ e ∙ sym passed) }
]
