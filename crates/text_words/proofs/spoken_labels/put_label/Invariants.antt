use Rattle.std.proofs.Common.{◌≡◌, ◌++◌, ◌∷◌, [], take}
use Rattle.std.specs.List.{flat_map}
use Rattle.text_words.specs.Label.{pair_text}
use Rattle.text_words.proofs.spoken_labels.put_label.Given as goal

abbrev pub invariant-loop-pair : goal.invariant-loop-pair
invariant-loop-pair l =
    l.out.items ≡ l.fn.out.items ++ 123 ∷ flat_map (λ p. pair_text p ++ 44 ∷ []) (take l.pair-index l.pair-items)
