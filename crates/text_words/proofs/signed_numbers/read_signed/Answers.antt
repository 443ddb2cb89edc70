use Rattle.std.proofs.Common.{decimal, ap, ◌∙◌}
use Rattle.text_words.proofs.SignedLemmas.{no_negative, no_zero}
use Rattle.text_words.proofs.signed_numbers.read_signed.Goals as goal

pub returns-in_default-read_number-2 : goal.returns-in_default-read_number-2
returns-in_default-read_number-2 c = λ v is e. no_negative c.args.word.now c.in-Some.digits.now c.in-Some.ensures.some c.in_default-read_number-2.ensures v is e

pub returns-then-size-eq0 : goal.returns-then-size-eq0
returns-then-size-eq0 c = λ v is e. no_zero c.args.word.now c.in-Some.digits.now c.in-Some.ensures.some (c.in-Some-read_number-2.ensures.1 ∙ ap decimal c.if-size-eq0.true) v is e
