use Rattle.arena_state.specs.States.{state_of}
use Rattle.arena_state.proofs.OwningLaws.{owning_both}
use Rattle.arena_state.proofs.states.ArenaState.own.Goals as goal

pub returns-clause-state : goal.returns-clause-state
returns-clause-state c =
    owning_both (state_of c.args.self.now) (state_of c.set_label.new.self) (state_of c.set_clearance.new.self) c.args.thread
    c.args.label.now c.args.clearance.now c.set_label.ensures.state c.set_clearance.ensures.state
