use Rattle.std.proofs.Common.{None, Some, sym, ◌∙◌}
use Rattle.std.proofs.lemmas.List.{get_or-replicate}
use Rattle.arena_memory.specs.Rows.{Shows}
use Rattle.arena_state.specs.States.{state_of}
use Rattle.arena_state.proofs.ShownLaws.{by_own_space, shut_shows_none}
use Rattle.arena_state.proofs.states.ArenaState.row_of.Goals as goal

pub returns-then-is_open-clause-row : goal.returns-then-is_open-clause-row
returns-then-is_open-clause-row c = λ i lt.
    c.row_through.ensures.row i lt
    ∙ by_own_space (state_of c.args.self.now) c.args.thread i (Some c.args.space.now) c.requires

pub returns-else-is_open-clause-row : goal.returns-else-is_open-clause-row
returns-else-is_open-clause-row c = λ i lt.
    get_or-replicate {A = Shows} 16 i None None lt
    ∙ shut_shows_none (state_of c.args.self.now) c.args.thread i c.args.space.now (sym c.if-is_open.ensures.value)
    ∙ by_own_space (state_of c.args.self.now) c.args.thread i (Some c.args.space.now) c.requires
