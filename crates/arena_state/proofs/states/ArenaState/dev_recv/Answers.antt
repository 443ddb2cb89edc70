use Rattle.std.proofs.Common.{sym, ◌∙◌, ap, drop, List, ℕ}
use Rattle.kernel_rules.proofs.PlaceLaws.{received_well_formed}
use Rattle.arena_state.specs.Contents.{keeps_device}
use Rattle.arena_state.specs.Stocked.{whole_state}
use Rattle.arena_state.proofs.EditLaws.{read_is}
use Rattle.arena_state.proofs.RefillLaws.{queues_sound, requeued, requeued_stocked, unshown}
use Rattle.arena_state.proofs.StockLaws.{whole_formed}
use Rattle.arena_state.proofs.states.ArenaState.dev_recv.Goals as goal

pub invariant_of-self : goal.invariant_of-self
invariant_of-self c =
    let a = c.args.self.now in
    let has = c.in-Some.ensures.found.has in
    let read = read_is a.pieces a.sound c.args.device.id c.in-Some.slot.0 has c.index.result.now c.index.ensures in
    let device = sym (ap (λ r. keeps_device r.body) read) ∙ sym c.if-is_device.ensures in
    record {
      sound = queues_sound a.pieces c.receive.new.self a.sound;
      stocked = requeued_stocked a.pieces a.sound c.args.device.id c.in-Some.slot.0 has a.stocked (drop {A = List ℕ} 1) c.receive.new.self
          c.receive.ensures.after device
          (received_well_formed (whole_state a.pieces) c.args.device.id (whole_formed a.pieces a.sound a.stocked));
    }

pub returns-then-is_device-clause-state : goal.returns-then-is_device-clause-state
returns-then-is_device-clause-state c =
    let a = c.args.self.now in
    let has = c.in-Some.ensures.found.has in
    let read = read_is a.pieces a.sound c.args.device.id c.in-Some.slot.0 has c.index.result.now c.index.ensures in
    let device = sym (ap (λ r. keeps_device r.body) read) ∙ sym c.if-is_device.ensures in
    requeued a.pieces a.sound c.args.device.id c.in-Some.slot.0 has a.stocked (drop {A = List ℕ} 1) c.receive.new.self
    c.receive.ensures.after device

pub returns-else-is_device-clause-state : goal.returns-else-is_device-clause-state
returns-else-is_device-clause-state c =
    let a = c.args.self.now in
    let has = c.in-Some.ensures.found.has in
    let read = read_is a.pieces a.sound c.args.device.id c.in-Some.slot.0 has c.index.result.now c.index.ensures in
    unshown a.pieces a.sound c.args.device.id c.in-Some.slot.0 has (drop {A = List ℕ} 1)
    (sym (ap (λ r. keeps_device r.body) read) ∙ sym c.if-is_device.ensures)
