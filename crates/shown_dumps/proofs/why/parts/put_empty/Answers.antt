use Rattle.std.proofs.Common.{◌++◌, ℕ, List, ap, decimal, ◌∙◌}
use Rattle.shown_dumps.proofs.TextLaws.{four_parts}
use Rattle.shown_dumps.proofs.why.parts.put_empty.Goals as goal

pub returns : goal.returns
returns c =
    four_parts _ _ _ _ _ _ _ _ _ c.in_ok-extend_from_slice.ensures.items
    (c.in_ok-put_number.ensures ∙ ap (λ (slot : ℕ). c.extend_from_slice.new.self.items ++ decimal slot) c.from.ensures)
    (c.in_ok-extend_from_slice-2.ensures.items
    ∙ ap (λ (words : List ℕ). c.put_number.new.out.items ++ words) (c.as_bytes.ensures.value ∙ c.either-words.ensures))
    c.in_ok-put_mapping.ensures
