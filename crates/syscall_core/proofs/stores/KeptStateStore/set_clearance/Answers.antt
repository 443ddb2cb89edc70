use Rattle.std.proofs.Common.{sym, subst}
use Rattle.std.specs.Prelude.{option_copied}
use Rattle.arena_state.specs.States.{state_of}
use Rattle.kernel_laws.specs.Names.{IsNamedRightly}
use Rattle.syscall_core.proofs.NamedLaws.{cleared_named}
use Rattle.syscall_core.proofs.RowLaws.{clear_rows_stay}
use Rattle.syscall_core.proofs.stores.KeptStateStore.set_clearance.Goals as goal

pub invariant_of-self : goal.invariant_of-self
invariant_of-self c =
    let k = c.args.self.now in
    let s = state_of k.state in
    record {
      kept = clear_rows_stay k.state c.give_clearance.new.self k.rows c.args.thread.id (option_copied c.args.clearance) k.kept c.give_clearance.ensures.places c.give_clearance.ensures.state;
      named = subst IsNamedRightly (sym c.give_clearance.ensures.state) (cleared_named s c.args.thread.id (option_copied c.args.clearance) k.named);
    }
