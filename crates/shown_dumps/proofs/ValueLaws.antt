-- One value more, and the text of a value.
use Rattle.std.proofs.Common.{◌≡◌, List, [], ◌∷◌, ◌++◌, map, ap, ◌∙◌}
use Rattle.std.proofs.lemmas.List.{append_assoc, map-append}
use Rattle.serde_json.specs.Data.{Data}
use Rattle.serde_json.specs.View.{view}
use Rattle.serde_json.specs.declared.value.Value.{Value}

-- a value that stands for the first of the data that are left
pub one_more : (values new : List Value) (v : Value) (d : Data) (rest whole : List Data) → new ≡ values ++ v ∷ [] → view v ≡ d
    → map view values ++ d ∷ rest ≡ whole → map view new ++ rest ≡ whole
one_more values new v d rest whole pushed is told =
    ap (λ (l : List Value). map view l ++ rest) pushed
    ∙ ap (λ (l : List Data). l ++ rest) (map-append view values (v ∷ []))
    ∙ append_assoc (map view values) (view v ∷ []) rest
    ∙ ap (λ (e : Data). map view values ++ e ∷ rest) is
    ∙ told
