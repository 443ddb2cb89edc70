use Rattle.std.proofs.Common.{ap, sym, ◌∙◌}
use Rattle.shown_dumps.specs.Pieces.{words_of}
use Rattle.shown_dumps.proofs.PieceLaws.{next_word, last_word}
use Rattle.page_text.specs.Told.{first_of}
use Rattle.page_text.proofs.lines.first_word.Goals as goal

pub returns-in-Some : goal.returns-in-Some
returns-in-Some c =
    sym (ap (λ l. first_of (words_of l)) (sym c.after_spaces-rest.ensures)
    ∙ ap first_of (next_word c.after_spaces-rest.result.now c.in-Some.word.now c.in-Some.field-0-1.now
    c.in-Some.ensures.parts c.in-Some.ensures.first))

pub returns-in-None : goal.returns-in-None
returns-in-None c =
    sym (ap (λ l. first_of (words_of l)) (sym c.after_spaces-rest.ensures)
    ∙ ap first_of (last_word c.after_spaces-rest.result.now c.in-None.ensures.none))
