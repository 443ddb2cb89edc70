use Rattle.std.proofs.Common.{◌∙◌, ap}
use Rattle.text_words.specs.Label.{LabelValue}
use Rattle.dump_text.proofs.WordLemmas.{no_name}
use Rattle.dump_text.proofs.labels.numbered.Goals as goal

pub returns-in_default-clause-none : goal.returns-in_default-clause-none
returns-in_default-clause-none c = λ l e.
    no_name c.pairs-pair-items.result.now c.loop-pair.pair-index c.pair-item.result c.in_default.field-0 l.pairs c.loop-pair-test.true c.pair-item.is c.in_default.is
    (c.pairs-pair-items.ensures.value ∙ ap (λ (x : LabelValue). x.pairs) e)
