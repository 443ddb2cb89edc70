use Rattle.std.proofs.Common.{◌∙◌, sym, ap, refl}
use Rattle.text_words.specs.TypeWord.{letters}
use Rattle.text_words.proofs.TypeLemmas.{letter_put, letter_left}
use Rattle.text_words.proofs.type_words.put_letters.Goals as goal
use Rattle.text_words.proofs.type_words.put_letters.Goals.{then-has+in_ok-push, else-has}

pub loop-letter-preserved : goal.loop-letter-preserved
loop-letter-preserved c = elim c.if-has.branch [
  | then-has+in_ok-push w ↦ record {
    written = letter_put c.args.set letters c.loop-letter.letter-index _ c.args.out.now.items c.loop-letter.out.items c.if-has.out.items c.loop-letter-test.true (sym c.has.ensures ∙ w.if-has.true) c.loop-letter.invariant.written (ap (λ v. v.items) w.out-is ∙ w.in_ok-push.ensures.items);
    table = refl;
  }
  | else-has w ↦ record {
    written = letter_left c.args.set letters c.loop-letter.letter-index _ c.args.out.now.items c.loop-letter.out.items c.if-has.out.items c.loop-letter-test.true (sym c.has.ensures ∙ w.if-has.false) c.loop-letter.invariant.written (ap (λ v. v.items) w.out-is);
    table = refl;
  }
]
