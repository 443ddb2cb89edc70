use Rattle.std.proofs.Common.{◌≡◌, sym, ap, ◌∙◌}
use Rattle.text_words.specs.Lacks.{lacks}
use Rattle.try_text.proofs.LineLaws.{has_first}
use Rattle.try_text.proofs.tried_lines.full_lines.lacks_worker.Goals as goal

pub returns-in-Some : goal.returns-in-Some
returns-in-Some c =
    sym (ap (lacks 58) (sym c.cut.ensures.before ∙ c.in-Some.ensures.parts)
    ∙ has_first 58 c.in-Some.field-0.0.now c.in-Some.field-0.1.now)
