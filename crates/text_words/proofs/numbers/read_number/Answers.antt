use Rattle.std.proofs.Common.{◌≡◌, ◌<◌, ◌^◌, sym, arith, get_or, length}
use Rattle.text_words.proofs.NumberLemmas.{spelled_number, number_spelled}
use Rattle.text_words.proofs.numbers.read_number.Goals as goal
use Rattle.text_words.proofs.numbers.read_number.Goals.{else-first-eq48-via-then-first-eq48+else-word-gt1, else-first-eq48-via-else-first-eq48}

pub returns-in_default : goal.returns-in_default
returns-in_default c = λ v le e. let is = spelled_number c.args.word.now v c.args.most le c.ranges.most e in let some = is.some in omega (arith, c.in_default.len_below)

pub returns-then-word-gt1 : goal.returns-then-word-gt1
returns-then-word-gt1 c = λ v le e. let is = spelled_number c.args.word.now v c.args.most le c.ranges.most e in let one = is.front c.if-first-eq48.true in let more = c.if-word-gt1.true in omega arith

pub returns-in_default-number_of : goal.returns-in_default-number_of
returns-in_default-number_of c = λ v le e.
    let is = spelled_number c.args.word.now v c.args.most le c.ranges.most e in
    let large = c.in_default-number_of.ensures.none is.digits in let value = is.value in let fits = c.ranges.most in omega arith

pub returns-then-number-most : goal.returns-then-number-most
returns-then-number-most c = λ v le e.
    let is = spelled_number c.args.word.now v c.args.most le c.ranges.most e in
    let value = is.value in let number = c.in-Some.ensures.some.1 in omega arith

pub returns : goal.returns
returns c =
    let front : get_or c.args.word.now 0 0 ≡ 48 → length c.args.word.now ≡ 1 = elim c.else-first-eq48.branch [
      | else-first-eq48-via-then-first-eq48+else-word-gt1 w ↦ λ e. omega arith
      | else-first-eq48-via-else-first-eq48 w ↦ λ e. absurd (w.if-first-eq48.false e)
    ] in
    let le = c.if-number-most.false in
    let fits = c.ranges.most in
    let small : c.in-Some.number < 2 ^ 64 = omega arith in
    (le, number_spelled c.args.word.now c.in-Some.number small (record { digits = c.in-Some.ensures.some.0; value = sym c.in-Some.ensures.some.1; some = omega (arith, c.in-len1-up.len_at_least); front = front }))
