use Rattle.std.proofs.Common.{◌==◌, ℕ, ap, ◌∙◌}
use Rattle.std.specs.Int.RustNames.{bit_and}
use Rattle.arena_state.proofs.LabelLaws.{order_read, below_bit, visible_bit, shown_bit}
use Rattle.arena_state.proofs.states.ArenaState.order.Goals as goal

pub returns-clause-below : goal.returns-clause-below
returns-clause-below c =
    ap (λ (n : ℕ). bit_and n 1 == 1) (order_read _ _ _ c.requires.one c.requires.other c.order.ensures) ∙ below_bit _ _

pub returns-clause-visible : goal.returns-clause-visible
returns-clause-visible c =
    ap (λ (n : ℕ). bit_and n 2 == 2) (order_read _ _ _ c.requires.one c.requires.other c.order.ensures) ∙ visible_bit _ _

pub returns-clause-shown : goal.returns-clause-shown
returns-clause-shown c =
    ap (λ (n : ℕ). bit_and n 4 == 4) (order_read _ _ _ c.requires.one c.requires.other c.order.ensures) ∙ shown_bit _ _
