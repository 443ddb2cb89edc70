use Rattle.std.proofs.Common.{sym, ◌∙◌, ap}
use Rattle.arena_state.specs.Contents.{keeps_device}
use Rattle.arena_state.proofs.BodyLaws.{packets_here, no_packets_here}
use Rattle.arena_state.proofs.EditLaws.{read_is}
use Rattle.arena_state.proofs.states.ArenaState.packets.Goals as goal

pub returns-then-is_device : goal.returns-then-is_device
returns-then-is_device c =
    let a = c.args.self.now in
    let has = c.in-Some.ensures.found.has in
    let read = read_is a.pieces a.sound c.args.at.id c.in-Some.slot.0 has c.index.result.now c.index.ensures in
    c.packets.ensures.value
    ∙ sym (packets_here a c.args.at.id c.in-Some.slot.0 has (sym (ap (λ r. keeps_device r.body) read) ∙ sym c.if-is_device.ensures))

pub returns-else-is_device : goal.returns-else-is_device
returns-else-is_device c =
    let a = c.args.self.now in
    let has = c.in-Some.ensures.found.has in
    let read = read_is a.pieces a.sound c.args.at.id c.in-Some.slot.0 has c.index.result.now c.index.ensures in
    sym (no_packets_here a c.args.at.id c.in-Some.slot.0 has (sym (ap (λ r. keeps_device r.body) read) ∙ sym c.if-is_device.ensures))
