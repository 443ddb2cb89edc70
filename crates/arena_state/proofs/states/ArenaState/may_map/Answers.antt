use Rattle.arena_state.proofs.MappedLaws.{unmapped}
use Rattle.arena_state.proofs.states.ArenaState.may_map.Goals as goal

pub returns-clause-none : goal.returns-clause-none
returns-clause-none c = λ off. unmapped c.args.self.now c.args.object (c.may_map.ensures.none off)
