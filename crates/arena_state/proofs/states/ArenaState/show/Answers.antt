use Rattle.arena_state.proofs.states.ArenaState.show.Goals as goal

pub returns-clause-shown : goal.returns-clause-shown
returns-clause-shown c = (c.row_of-row.result, c.row_of-row.ensures.row, c.set.ensures.all)
