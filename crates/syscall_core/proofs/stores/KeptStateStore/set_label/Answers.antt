use Rattle.std.proofs.Common.{sym, subst}
use Rattle.std.specs.Prelude.{option_copied}
use Rattle.arena_state.specs.States.{state_of}
use Rattle.kernel_laws.specs.Names.{IsNamedRightly}
use Rattle.kernel_rules.specs.Changes.{changed, labelled}
use Rattle.kernel_rules.specs.Step.{with_value}
use Rattle.kernel_laws.proofs.Threads.{label_own}
use Rattle.kernel_laws.proofs.Touched.{labels_row, rows_value}
use Rattle.syscall_core.proofs.NamedLaws.{labelled_named}
use Rattle.syscall_core.proofs.RowLaws.{valued_limits, valued_space, row_remade, same_slots}
use Rattle.syscall_core.proofs.stores.KeptStateStore.set_label.Goals as goal

pub invariant_of-self : goal.invariant_of-self
invariant_of-self c =
    let k = c.args.self.now in
    let s = state_of k.state in
    record {
      kept = row_remade k.state c.give_label.new.self k.rows c.remake_row.new.rows c.args.thread.id k.kept (with_value s (option_copied c.args.label) (λ l. changed s c.args.thread.id (labelled l))) c.give_label.ensures.state (same_slots k.state c.give_label.new.self c.args.thread.id c.give_label.ensures.places) (valued_limits s (option_copied c.args.label) c.args.thread.id labelled) (valued_space s (option_copied c.args.label) c.args.thread.id labelled)
          (λ q i off. rows_value s q i (option_copied c.args.label) (λ l. changed s c.args.thread.id (labelled l)) (λ l.
          labels_row s (changed s c.args.thread.id (labelled l)) c.args.thread.id q i k.named c.requires.thread off
          (label_own s c.args.thread.id q l off) (λ law. law.label l))) c.remake_row.ensures.size c.remake_row.ensures.row c.remake_row.ensures.others;
      named = subst IsNamedRightly (sym c.give_label.ensures.state) (labelled_named s c.args.thread.id (option_copied c.args.label) k.named);
    }
