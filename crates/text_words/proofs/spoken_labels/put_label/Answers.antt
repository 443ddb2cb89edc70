use Rattle.std.proofs.Common.{◌≡◌, ◌++◌, ◌∷◌, [], List, take, ◌∙◌, ap}
use Rattle.std.specs.List.{flat_map}
use Rattle.std.proofs.lemmas.List.{take_all}
use Rattle.base.specs.declared.levels.Level.{Level}
use Rattle.text_words.specs.LevelWord.{level_text}
use Rattle.text_words.specs.declared.spoken_labels.SpokenPair.{SpokenPair}
use Rattle.text_words.specs.Label.{pair_text}
use Rattle.text_words.proofs.LabelLemmas.{label_written}
use Rattle.text_words.proofs.spoken_labels.put_label.Goals as goal

pub returns : goal.returns
returns c =
    let all : take c.loop-pair.pair-index c.pairs-pair-items.result.now ≡ c.args.label.now.pairs =
    take_all c.loop-pair.pair-index c.pairs-pair-items.result.now c.loop-pair-test.false ∙ c.pairs-pair-items.ensures.value in
    let opened : c.loop-pair.out.items ≡ c.args.out.now.items ++ 123 ∷ flat_map (λ p. pair_text p ++ 44 ∷ []) c.args.label.now.pairs =
    c.loop-pair.invariant ∙ ap (λ (ps : List SpokenPair). c.args.out.now.items ++ 123 ∷ flat_map (λ p. pair_text p ++ 44 ∷ []) ps) all in
    let levelled : c.put_level.new.out.items ≡ c.loop-pair.out.items ++ level_text c.args.label.now.default =
    c.in_ok-put_level.ensures ∙ ap (λ (l : Level). c.loop-pair.out.items ++ level_text l) c.default.ensures in
    label_written c.args.out.now.items _ _ _ c.args.label.now.pairs c.args.label.now.default opened levelled c.in_ok-push-2.ensures.items
