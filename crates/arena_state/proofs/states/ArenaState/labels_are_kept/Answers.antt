use Rattle.arena_state.proofs.KeptLaws.{labels_kept}
use Rattle.arena_state.proofs.states.ArenaState.labels_are_kept.Goals as goal

pub returns : goal.returns
returns c = labels_kept c.args.self.now c.well_formed-2.ensures
