use Rattle.std.proofs.Common.{List, ℕ, length, sym, ap, ◌∙◌}
use Rattle.arena_state.proofs.WholeLaws.{listed_is}
use Rattle.arena_state.proofs.states.ArenaState.list_len.Goals as goal

pub returns-in-Some-clause-value : goal.returns-in-Some-clause-value
returns-in-Some-clause-value c =
    c.entry_count.ensures.count
    ∙ sym (ap (λ (l : List ℕ). length l) (listed_is c.args.self.now.pieces c.args.self.now.sound c.args.container.id))
