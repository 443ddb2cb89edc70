use Rattle.std.proofs.Common.{ℕ, ◌++◌, decimal, ap, ◌∙◌}
use Rattle.shown_dumps.proofs.TextLaws.{three_parts}
use Rattle.shown_dumps.proofs.dot.nodes.put_unseen.Goals as goal

pub returns : goal.returns
returns c =
    three_parts _ _ _ _ _ _ _ c.in_ok-extend_from_slice.ensures.items
    (c.in_ok-put_number.ensures ∙ ap (λ (n : ℕ). c.extend_from_slice.new.self.items ++ decimal n) c.number.ensures)
    c.in_ok-extend_from_slice-2.ensures.items
