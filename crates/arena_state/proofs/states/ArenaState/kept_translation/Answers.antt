use Rattle.std.proofs.Common.{sym}
use Rattle.arena_state.specs.States.{state_of}
use Rattle.arena_state.proofs.ShownLaws.{absent_shows_none, past_shows_none}
use Rattle.arena_state.proofs.StockLaws.{whole_formed}
use Rattle.arena_state.proofs.states.ArenaState.kept_translation.Goals as goal

pub returns-then-place-ge16-clause-value : goal.returns-then-place-ge16-clause-value
returns-then-place-ge16-clause-value c =
    let a = c.args.self.now in
    sym (past_shows_none (state_of a) c.args.thread c.args.place (whole_formed a.pieces a.sound a.stocked) c.if-place-ge16.true)

pub returns-in-None-clause-value : goal.returns-in-None-clause-value
returns-in-None-clause-value c =
    sym (absent_shows_none (state_of c.args.self.now) c.args.thread c.args.place c.in-None.ensures.none)
