use Rattle.std.proofs.Common.{◌<◌, refl, arith}
use Rattle.text_words.specs.declared.hex_bytes.TheConstants.{VALUES}
use Rattle.text_words.proofs.HexLemmas.{value_in, none_in}
use Rattle.text_words.proofs.hex_bytes.digit_value.Goals as goal

pub returns-clause-some : goal.returns-clause-some
returns-clause-some c = let fits = c.ranges.digit in let lt : c.args.digit < 256 = omega arith in (c.if-value-ge16.false, value_in VALUES c.args.digit refl lt c.if-value-ge16.false)

pub returns-then-value-ge16-clause-none : goal.returns-then-value-ge16-clause-none
returns-then-value-ge16-clause-none c = λ v lt e. none_in VALUES c.args.digit v refl c.if-value-ge16.true lt e
