use Rattle.std.proofs.Common.{sym, subst}
use Rattle.arena_state.specs.States.{state_of}
use Rattle.kernel_laws.specs.Names.{IsNamedRightly}
use Rattle.kernel_rules.specs.Changes.{changed, spaced}
use Rattle.arena_state.proofs.StockLaws.{whole_formed}
use Rattle.kernel_laws.proofs.Threads.{spaced_lem}
use Rattle.syscall_core.proofs.NamedLaws.{space_named, spaced_named}
use Rattle.syscall_core.proofs.RowLaws.{changed_limits, changed_space, row_remade, same_slots}
use Rattle.syscall_core.proofs.stores.KeptStateStore.set_space.Goals as goal

pub invariant_of-self : goal.invariant_of-self
invariant_of-self c =
    let k = c.args.self.now in
    let s = state_of k.state in
    record {
      kept = row_remade k.state c.set_space.new.self k.rows c.remake_row.new.rows c.args.thread.id k.kept (changed s c.args.thread.id (spaced c.args.space)) c.set_space.ensures.state (same_slots k.state c.set_space.new.self c.args.thread.id c.set_space.ensures.places) (changed_limits s c.args.thread.id (spaced c.args.space)) (changed_space s c.args.thread.id (spaced c.args.space))
          (λ q i off. spaced_lem s c.args.thread.id q i c.args.space c.requires.thread off) c.remake_row.ensures.size c.remake_row.ensures.row c.remake_row.ensures.others;
      named = subst IsNamedRightly (sym c.set_space.ensures.state) (spaced_named s c.args.thread.id c.args.space (space_named s c.args.space (whole_formed k.state.pieces k.state.sound k.state.stocked) c.requires.space) k.named);
    }
