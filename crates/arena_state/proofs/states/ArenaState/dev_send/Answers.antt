use Rattle.std.proofs.Common.{◌<◌, ◌++◌, ◌∷◌, [], length, sym, ◌∙◌, ap, subst}
use Rattle.kernel_rules.proofs.PlaceLaws.{sent_well_formed}
use Rattle.arena_state.specs.Contents.{keeps_device}
use Rattle.arena_state.specs.Stocked.{whole_state}
use Rattle.arena_state.proofs.BodyLaws.{packets_here}
use Rattle.arena_state.proofs.EditLaws.{read_is}
use Rattle.arena_state.proofs.RefillLaws.{queues_sound, requeued, requeued_stocked, unshown}
use Rattle.arena_state.proofs.StockLaws.{whole_formed}
use Rattle.arena_state.proofs.states.ArenaState.dev_send.Goals as goal

pub invariant_of-self : goal.invariant_of-self
invariant_of-self c =
    let a = c.args.self.now in
    let has = c.in-Some.ensures.found.has in
    let read = read_is a.pieces a.sound c.args.device.id c.in-Some.slot.0 has c.index.result.now c.index.ensures in
    let device = sym (ap (λ r. keeps_device r.body) read) ∙ sym c.if-is_device.ensures in
    record {
      sound = queues_sound a.pieces c.send.new.self a.sound;
      stocked = requeued_stocked a.pieces a.sound c.args.device.id c.in-Some.slot.0 has a.stocked (λ packets. packets ++ c.args.packet ∷ []) c.send.new.self
          c.send.ensures.after device
          (sent_well_formed (whole_state a.pieces) c.args.device.id c.args.packet c.requires.some c.requires.few c.requires.room
          (whole_formed a.pieces a.sound a.stocked));
    }

pub returns-then-is_device-clause-state : goal.returns-then-is_device-clause-state
returns-then-is_device-clause-state c =
    let a = c.args.self.now in
    let has = c.in-Some.ensures.found.has in
    let read = read_is a.pieces a.sound c.args.device.id c.in-Some.slot.0 has c.index.result.now c.index.ensures in
    let device = sym (ap (λ r. keeps_device r.body) read) ∙ sym c.if-is_device.ensures in
    requeued a.pieces a.sound c.args.device.id c.in-Some.slot.0 has a.stocked (λ packets. packets ++ c.args.packet ∷ []) c.send.new.self
    c.send.ensures.after device

pub returns-else-is_device-clause-state : goal.returns-else-is_device-clause-state
returns-else-is_device-clause-state c =
    let a = c.args.self.now in
    let has = c.in-Some.ensures.found.has in
    let read = read_is a.pieces a.sound c.args.device.id c.in-Some.slot.0 has c.index.result.now c.index.ensures in
    unshown a.pieces a.sound c.args.device.id c.in-Some.slot.0 has (λ packets. packets ++ c.args.packet ∷ [])
    (sym (ap (λ r. keeps_device r.body) read) ∙ sym c.if-is_device.ensures)

pub send-requires-clause-room : goal.send-requires-clause-room
send-requires-clause-room c =
    let a = c.args.self.now in
    let has = c.in-Some.ensures.found.has in
    let read = read_is a.pieces a.sound c.args.device.id c.in-Some.slot.0 has c.index.result.now c.index.ensures in
    let device = sym (ap (λ r. keeps_device r.body) read) ∙ sym c.if-is_device.ensures in
    subst (λ ps. length ps < 4) (packets_here a c.args.device.id c.in-Some.slot.0 has device) c.requires.room
