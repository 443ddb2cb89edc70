-- Pieces of a text, put together again.
use Rattle.std.proofs.Common.{◌≡◌, ℕ, List, [], ◌∷◌, ◌++◌, take, drop, ap, ◌∙◌}
use Rattle.std.proofs.lemmas.List.{append-nil, take-append-drop}
use Rattle.shown_dumps.specs.Colours.{pieces_by, plain_of}
use Rattle.shown_dumps.specs.declared.tree.colours.Mark.{Mark}

pub plain_again : (ms : List Mark) (text : List ℕ) → plain_of (pieces_by ms text) ≡ text
plain_again [] text = append-nil text
plain_again (m ∷ ms) text =
    ap (λ (l : List ℕ). take m.plain text ++ (take m.length (drop m.plain text) ++ l))
    (plain_again ms (drop m.length (drop m.plain text)))
    ∙ ap (λ (l : List ℕ). take m.plain text ++ l) (take-append-drop m.length (drop m.plain text))
    ∙ take-append-drop m.plain text
