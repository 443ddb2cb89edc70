use Rattle.std.proofs.Common.{◌≡◌, ◌++◌, ◌∷◌, [], List, ℕ, ap, sym, ◌∙◌}
use Rattle.std.proofs.lemmas.List.{append_assoc}
use Rattle.call_text.specs.Scripts.{line_number, line_text, next_number, numbers_from, plain_text}
use Rattle.call_text.proofs.LineLaws.{text_after, text_at_end, numbers_after, numbers_at_end}
use Rattle.call_text.proofs.plain_scripts.scripts.put_lines.Goals as goal

pub loop-line-preserved : goal.loop-line-preserved
loop-line-preserved c =
    let text = c.loop-line.plain.text.items in
    let numbers = c.loop-line.plain.numbers.items in
    let n = c.loop-line.number in
    let line = c.in-Some.line.now in
    let more = c.in-Some.more.now in
    let parts = c.in-Some.ensures.parts in
    let first = c.in-Some.ensures.first in (
      ap (λ (o : List ℕ). o ++ plain_text more) c.in_ok-put_line.ensures.text
          ∙ append_assoc text (line_text line) (plain_text more)
          ∙ ap (λ (l : List ℕ). text ++ l) (sym (ap plain_text parts ∙ text_after [] line more first)) ∙ c.loop-line.invariant.0,
      ap (λ (o : List ℕ). o ++ numbers_from c.next_number-number.result [] more) c.in_ok-put_line.ensures.numbers
          ∙ append_assoc numbers (line_number n line) (numbers_from c.next_number-number.result [] more)
          ∙ ap (λ m. numbers ++ (line_number n line ++ numbers_from m [] more)) c.next_number-number.ensures
          ∙ ap (λ (l : List ℕ). numbers ++ l) (sym (ap (numbers_from n []) parts ∙ numbers_after n [] line more first))
          ∙ c.loop-line.invariant.1,
    )

pub returns-clause-text : goal.returns-clause-text
returns-clause-text c =
    c.in_ok-put_line-2.ensures.text
    ∙ ap (λ (l : List ℕ). c.loop-line.plain.text.items ++ l) (sym (text_at_end [] c.loop-line.rest.now c.in_default.ensures.none))
    ∙ c.loop-line.invariant.0

pub returns-clause-numbers : goal.returns-clause-numbers
returns-clause-numbers c =
    c.in_ok-put_line-2.ensures.numbers
    ∙ ap (λ (l : List ℕ). c.loop-line.plain.numbers.items ++ l)
    (sym (numbers_at_end c.loop-line.number [] c.loop-line.rest.now c.in_default.ensures.none))
    ∙ c.loop-line.invariant.1
