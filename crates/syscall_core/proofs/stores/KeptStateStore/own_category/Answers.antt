use Rattle.std.proofs.Common.{sym, subst}
use Rattle.std.specs.Prelude.{option_copied}
use Rattle.arena_state.specs.States.{state_of}
use Rattle.kernel_laws.specs.Names.{IsNamedRightly}
use Rattle.kernel_rules.specs.Step.{owned}
use Rattle.kernel_laws.proofs.Names.{named_owned}
use Rattle.kernel_laws.proofs.Touched.{owned_row}
use Rattle.syscall_core.proofs.RowLaws.{owned_limits, owned_space, row_remade, same_slots}
use Rattle.syscall_core.proofs.stores.KeptStateStore.own_category.Goals as goal

pub invariant_of-self : goal.invariant_of-self
invariant_of-self c =
    let k = c.args.self.now in
    let s = state_of k.state in
    record {
      kept = row_remade k.state c.own_category.new.self k.rows c.remake_row.new.rows c.args.thread.id k.kept (owned s c.args.thread.id (option_copied c.args.label) (option_copied c.args.clearance)) c.own_category.ensures.state (same_slots k.state c.own_category.new.self c.args.thread.id c.own_category.ensures.places) (owned_limits s c.args.thread.id (option_copied c.args.label) (option_copied c.args.clearance)) (owned_space s c.args.thread.id (option_copied c.args.label) (option_copied c.args.clearance))
          (λ q i off. owned_row s c.args.thread.id q i (option_copied c.args.label) (option_copied c.args.clearance) k.named c.requires.thread off) c.remake_row.ensures.size c.remake_row.ensures.row c.remake_row.ensures.others;
      named = subst IsNamedRightly (sym c.own_category.ensures.state) (named_owned s c.args.thread.id (option_copied c.args.label) (option_copied c.args.clearance) k.named);
    }
