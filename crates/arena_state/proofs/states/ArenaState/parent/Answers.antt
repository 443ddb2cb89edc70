use Rattle.arena_state.proofs.WholeLaws.{container_there, parent_is, parent_none}
use Rattle.arena_state.proofs.states.ArenaState.parent.Goals as goal

pub parent-requires : goal.parent-requires
parent-requires c = container_there c.args.self.now.pieces c.args.self.now.sound c.args.container c.requires

pub returns-in-Some-clause-value : goal.returns-in-Some-clause-value
returns-in-Some-clause-value c =
    parent_is c.args.self.now.pieces c.args.self.now.sound c.args.container c.requires c.in-Some.parent c.in-Some.ensures.listed

pub returns-in-None-clause-value : goal.returns-in-None-clause-value
returns-in-None-clause-value c =
    parent_none c.args.self.now.pieces c.args.self.now.sound c.args.container c.requires c.in-None.ensures.none
