use Rattle.std.proofs.Common.{◌≡◌, ◌+◌, ◌<◌, ◌^◌, true, length, refl, ap, sym, ◌∙◌, arith}
use Rattle.call_text.specs.Script.{lines_of, start}
use Rattle.call_text.specs.Scripts.{counts_from, numbers_of, plain_text}
use Rattle.call_text.proofs.ExactLaws.{few_lines, lines_are_plain, lines_count}
use Rattle.call_text.proofs.plain_scripts.laws.exact_is_plain.Goals as goal

pub returns-clause-text : goal.returns-clause-text
returns-clause-text c = λ bytes phases is.
    ap plain_text is.spelled.bytes_are ∙ lines_are_plain (lines_of phases) is.spelled.fit ∙ sym is.spelled.bytes_are

pub returns-clause-numbers : goal.returns-clause-numbers
returns-clause-numbers c = λ bytes phases is.
    let few = few_lines start is.spelled.state (lines_of phases) is.spelled.ran (omega arith) in
    let counts : counts_from 1 (numbers_of bytes) ≡ true =
    ap (λ b. counts_from 1 (numbers_of b)) is.spelled.bytes_are ∙ lines_count 1 (lines_of phases) is.spelled.fit (omega arith) in
    rw counts refl
