use Rattle.std.proofs.Common.{sym, ◌∙◌, ap}
use Rattle.arena_state.specs.Stocked.{keeps_space}
use Rattle.arena_state.proofs.BodyLaws.{slots_here, no_slots_here}
use Rattle.arena_state.proofs.EditLaws.{read_is}
use Rattle.arena_state.proofs.states.ArenaState.slots.Goals as goal

pub returns-then-is_space-clause-value : goal.returns-then-is_space-clause-value
returns-then-is_space-clause-value c =
    let a = c.args.self.now in
    let has = c.in-Some.ensures.found.has in
    let read = read_is a.pieces a.sound c.args.at.id c.in-Some.slot.0 has c.index.result.now c.index.ensures in
    c.mappings.ensures.value
    ∙ sym (slots_here a c.args.at.id c.in-Some.slot.0 has (sym (ap (λ r. keeps_space r.body) read) ∙ sym c.if-is_space.ensures))

pub returns-else-is_space-clause-value : goal.returns-else-is_space-clause-value
returns-else-is_space-clause-value c =
    let a = c.args.self.now in
    let has = c.in-Some.ensures.found.has in
    let read = read_is a.pieces a.sound c.args.at.id c.in-Some.slot.0 has c.index.result.now c.index.ensures in
    sym (no_slots_here a c.args.at.id c.in-Some.slot.0 has (sym (ap (λ r. keeps_space r.body) read) ∙ sym c.if-is_space.ensures))
