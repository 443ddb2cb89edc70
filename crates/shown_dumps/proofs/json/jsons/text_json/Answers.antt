use Rattle.std.proofs.Common.{ℕ, List, [], ◌∷◌, ◌++◌, ap, ◌∙◌}
use Rattle.serde_json.specs.Data.{Data}
use Rattle.serde_json.specs.Written.{has_float, compact_text}
use Rattle.shown_dumps.proofs.FloatLaws.{no_float}
use Rattle.shown_dumps.proofs.json.jsons.text_json.Goals as goal

pub returns : goal.returns
returns c =
    c.in_ok-push.ensures.items
    ∙ ap (λ (l : List ℕ). l ++ 10 ∷ [])
    (c.in_ok-told.ensures.text (ap (λ (d : Data). has_float d) c.in_ok-value.ensures ∙ no_float c.args.text.now)
    ∙ ap (λ (d : Data). compact_text d) c.in_ok-value.ensures)
