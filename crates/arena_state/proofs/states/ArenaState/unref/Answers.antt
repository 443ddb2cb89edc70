use Rattle.arena_state.specs.States.{state_of}
use Rattle.arena_state.proofs.StockLaws.{whole_formed}
use Rattle.arena_state.proofs.UnlistedLaws.{unlisted_state}
use Rattle.arena_state.proofs.WholeLaws.{none_lists, none_listed}
use Rattle.arena_state.proofs.states.ArenaState.unref.Goals as goal

pub returns-in-None-told-clause-state : goal.returns-in-None-told-clause-state
returns-in-None-told-clause-state c =
    let a = c.args.self.now in
    unlisted_state (state_of a) c.args.container.id c.args.object.id (whole_formed a.pieces a.sound a.stocked)
    (none_listed a.pieces a.sound c.args.container.id c.args.object.id
    c.in-None-told.ensures.none)

pub returns-in-None-clause-state : goal.returns-in-None-clause-state
returns-in-None-clause-state c =
    let a = c.args.self.now in
    unlisted_state (state_of a) c.args.container.id c.args.object.id (whole_formed a.pieces a.sound a.stocked)
    (none_lists a.pieces a.sound c.args.container.id c.args.object.id
    c.in-None.ensures.none)
