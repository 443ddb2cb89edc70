use Rattle.std.proofs.Common.{sym, subst}
use Rattle.arena_state.specs.States.{state_of}
use Rattle.kernel_laws.specs.Names.{IsNamedRightly}
use Rattle.arena_state.proofs.StockLaws.{whole_formed}
use Rattle.kernel_laws.proofs.Names.{named_slot}
use Rattle.syscall_core.proofs.NamedLaws.{mapping_named}
use Rattle.syscall_core.proofs.RepairLaws.{all_slots, slot_left}
use Rattle.syscall_core.proofs.stores.KeptStateStore.set_slot.Goals as goal

pub repair-requires : goal.repair-requires
repair-requires c =
    slot_left c.args.self.now.state c.set_slot.new.self c.args.self.now.rows c.args.space.id c.args.slot c.args.mapping
    c.args.self.now.kept (all_slots c.args.self.now.state c.set_slot.new.self c.set_slot.ensures.places) c.set_slot.ensures.state

pub invariant_of-self : goal.invariant_of-self
invariant_of-self c =
    let k = c.args.self.now in
    let s = state_of k.state in
    record {
      kept = c.repair.ensures.kept;
      named = subst IsNamedRightly (sym c.set_slot.ensures.state) (named_slot s c.args.space.id c.args.slot c.args.mapping k.named (mapping_named s c.args.mapping (whole_formed k.state.pieces k.state.sound k.state.stocked) c.requires.segment));
    }
