use Rattle.std.proofs.Common.{◌∙◌, sym, ap, get_or, ◌+◌, ◌*◌}
use Rattle.std.proofs.lemmas.Int.Digits.{digits_value_more, digits_more}
use Rattle.std.specs.Char.{digit_value}
use Rattle.text_words.proofs.NumberLemmas.{too_large}
use Rattle.text_words.proofs.numbers.number_of.Goals as goal

pub returns-in_default-clause-none : goal.returns-in_default-clause-none
returns-in_default-clause-none c = too_large c.args.digits.now c.loop-byte.byte-index c.loop-byte.number c.loop-byte-test.true c.loop-byte.invariant.value c.in_default.ensures.none

pub loop-byte-preserved : goal.loop-byte-preserved
loop-byte-preserved c = record {
  digits = digits_more 10 c.args.digits.now c.loop-byte.byte-index c.loop-byte-test.true c.loop-byte.invariant.digits c.in-Some.ensures.some.0;
  value = c.in-Some.ensures.some.1 ∙ ap (λ n. n * 10 + digit_value (get_or c.args.digits.now c.loop-byte.byte-index 0)) c.loop-byte.invariant.value ∙ sym (digits_value_more 10 c.args.digits.now c.loop-byte.byte-index c.loop-byte-test.true);
}
