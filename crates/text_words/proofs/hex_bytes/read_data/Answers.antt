use Rattle.std.proofs.Common.{arith, inl, inr}
use Rattle.text_words.proofs.WordLemmas.{data_is, not_so}
use Rattle.text_words.proofs.hex_bytes.read_data.Goals as goal

pub returns-then-len-eq0 : goal.returns-then-len-eq0
returns-then-len-eq0 c = λ v fits e.
    let d = data_is c.args.word.now v (λ k. not_so c.is_same.result c.if-is_same.false (c.is_same.ensures.1 k)) fits e in
    elim c.then-len-eq0.either [ inl h ↦ omega (arith, fits.few, d.1, d.2) | inr h ↦ omega (arith, fits.few, d.1, d.2) ]

pub returns-then-word-len : goal.returns-then-word-len
returns-then-word-len c = λ v fits e.
    let d = data_is c.args.word.now v (λ k. not_so c.is_same.result c.if-is_same.false (c.is_same.ensures.1 k)) fits e in
    let other = c.if-word-len.true in
    omega (arith, d.1)
