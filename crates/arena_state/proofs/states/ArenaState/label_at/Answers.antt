use Rattle.arena_state.proofs.LabelLaws.{label_read}
use Rattle.arena_state.proofs.states.ArenaState.label_at.Goals as goal

pub returns : goal.returns
returns c = label_read _ _ c.requires c.get.ensures
