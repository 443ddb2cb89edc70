use Rattle.std.proofs.Common.{refl, length, arith}
use Rattle.std.proofs.lemmas.List.{take_more_set}
use Rattle.hex.specs.Hex.{encode_with}
use Rattle.text_words.proofs.HexLemmas.{no_high, no_low, byte_more}
use Rattle.text_words.proofs.hex_bytes.decode.Goals as goal

pub loop-i-init : goal.loop-i-init
unfolding encode_with
loop-i-init c = refl

pub returns-in_default-clause-no : goal.returns-in_default-clause-no
returns-in_default-clause-no c = λ _ v fits e. no_high c.args.word.now v (length c.args.out.now) c.loop-i.i c.requires c.loop-i-test.true c.in_default.ensures.none fits e

pub returns-in_default-digit_value-clause-no : goal.returns-in_default-digit_value-clause-no
returns-in_default-digit_value-clause-no c = λ _ v fits e. no_low c.args.word.now v (length c.args.out.now) c.loop-i.i c.requires c.loop-i-test.true c.in_default-digit_value.ensures.none fits e

pub loop-i-preserved : goal.loop-i-preserved
loop-i-preserved c =
    let lt = c.loop-i-test.true in let same = c.loop-i.auto.out in let many = c.requires in
    byte_more c.args.word.now _ _ c.loop-i.i c.in-Some.high c.in-Some-digit_value.low c.loop-i.invariant (omega arith) c.in-Some.ensures.some.0 c.in-Some-digit_value.ensures.some.0
    c.in-Some.ensures.some.1 c.in-Some-digit_value.ensures.some.1 (take_more_set c.loop-i.out c.loop-i.i _ (omega arith))
