use Rattle.std.proofs.Common.{◌≡◌, ◌∙◌, None, sym}
use Rattle.kernel_rules.specs.State.{object_at}
use Rattle.arena_state.specs.States.{state_of}
use Rattle.arena_state.proofs.WholeLaws.{links_is, none_lists, none_listed}
use Rattle.arena_state.proofs.states.ArenaState.lists.Goals as goal

pub is_linked-requires-clause-container : goal.is_linked-requires-clause-container
is_linked-requires-clause-container c =
    c.in-Some.ensures.found.has

pub is_linked-requires-clause-object : goal.is_linked-requires-clause-object
is_linked-requires-clause-object c =
    c.in-Some-told.ensures.found.has

pub returns-in-Some-told-clause-value : goal.returns-in-Some-told-clause-value
returns-in-Some-told-clause-value c =
    c.is_linked.ensures.value
    ∙ links_is c.args.self.now.pieces c.args.self.now.sound c.args.container.id c.args.object.id

pub returns-in-None-told-clause-value : goal.returns-in-None-told-clause-value
returns-in-None-told-clause-value c =
    let none : object_at (state_of c.args.self.now) c.args.object.id ≡ None = c.in-None-told.ensures.none in
    sym (none_listed c.args.self.now.pieces c.args.self.now.sound c.args.container.id c.args.object.id none)

pub returns-in-None-clause-value : goal.returns-in-None-clause-value
returns-in-None-clause-value c =
    let none : object_at (state_of c.args.self.now) c.args.container.id ≡ None = c.in-None.ensures.none in
    sym (none_lists c.args.self.now.pieces c.args.self.now.sound c.args.container.id c.args.object.id none)
