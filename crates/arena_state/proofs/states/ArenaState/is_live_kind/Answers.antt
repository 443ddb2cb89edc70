use Rattle.std.proofs.Common.{◌∙◌}
use Rattle.kernel_rules.proofs.WellFormedLaws.{live_kind}
use Rattle.arena_state.specs.States.{state_of}
use Rattle.arena_state.proofs.StockLaws.{whole_formed}
use Rattle.arena_state.proofs.states.ArenaState.is_live_kind.Goals as goal

pub returns-clause-value : goal.returns-clause-value
returns-clause-value c =
    c.is_kind.ensures.value ∙ live_kind (state_of c.args.self.now) c.args.kind c.args.id (whole_formed c.args.self.now.pieces c.args.self.now.sound c.args.self.now.stocked)
