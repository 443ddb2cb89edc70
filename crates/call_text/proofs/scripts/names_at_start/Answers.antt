use Rattle.std.proofs.Common.{◌∙◌}
use Rattle.text_words.specs.contracts.names.NamePartialEq.TheImpl.{eq-value}
use Rattle.indexmap.specs.IndexSet.{insert_key}
use Rattle.call_text.proofs.scripts.names_at_start.Goals as goal

pub returns : goal.returns
returns c =
    let root = c.in_ok-insert.ensures.keys ∙ (λ i. insert_key eq-value.it (c.new-names.ensures.empty i) (c.from_slice.ensures i)) in
    let boot = c.in_ok-insert-2.ensures.keys ∙ (λ i. insert_key eq-value.it (root i) (c.from_slice-2.ensures i)) in
    c.in_ok-insert-3.ensures.keys ∙ (λ i. insert_key eq-value.it (boot i) (c.from_slice-3.ensures i))
