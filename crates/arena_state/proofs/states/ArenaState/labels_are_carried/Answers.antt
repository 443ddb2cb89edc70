use Rattle.arena_state.proofs.CarriedLaws.{labels_carried}
use Rattle.arena_state.proofs.states.ArenaState.labels_are_carried.Goals as goal

pub returns : goal.returns
returns c = labels_carried c.args.self.now.pieces c.args.self.now.sound c.well_formed-2.ensures
