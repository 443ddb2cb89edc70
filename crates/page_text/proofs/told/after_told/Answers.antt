use Rattle.std.proofs.Common.{drop, ap, ◌∙◌}
use Rattle.std.proofs.lemmas.List.{drop-drop}
use Rattle.page_text.specs.Told.{told_in}
use Rattle.page_text.proofs.told.after_told.Goals as goal

pub loop-preserved : goal.loop-preserved
loop-preserved c =
    c.first_told.ensures.rest ∙ ap (λ l. drop 1 l) c.loop.invariant ∙ drop-drop 1 c.loop.counter (told_in c.args.text.now)
