use Rattle.std.proofs.Common.{sym, subst}
use Rattle.arena_state.specs.States.{state_of}
use Rattle.kernel_laws.specs.Names.{IsNamedRightly}
use Rattle.kernel_rules.specs.Changes.{changed, entered}
use Rattle.kernel_laws.proofs.Threads.{entered_own}
use Rattle.kernel_laws.proofs.Touched.{labels_row}
use Rattle.syscall_core.proofs.NamedLaws.{entered_named}
use Rattle.syscall_core.proofs.RowLaws.{changed_limits, changed_space, row_remade, same_slots}
use Rattle.syscall_core.proofs.stores.KeptStateStore.enter.Goals as goal

pub invariant_of-self : goal.invariant_of-self
invariant_of-self c =
    let k = c.args.self.now in
    let s = state_of k.state in
    record {
      kept = row_remade k.state c.enter.new.self k.rows c.remake_row.new.rows c.args.thread.id k.kept (changed s c.args.thread.id (entered c.args.labels.now.label.now c.args.labels.now.clearance.now c.args.labels.now.verify.now c.args.gate.now)) c.enter.ensures.state (same_slots k.state c.enter.new.self c.args.thread.id c.enter.ensures.places) (changed_limits s c.args.thread.id (entered c.args.labels.now.label.now c.args.labels.now.clearance.now c.args.labels.now.verify.now c.args.gate.now)) (changed_space s c.args.thread.id (entered c.args.labels.now.label.now c.args.labels.now.clearance.now c.args.labels.now.verify.now c.args.gate.now))
          (λ q i off. labels_row s (changed s c.args.thread.id (entered c.args.labels.now.label.now c.args.labels.now.clearance.now c.args.labels.now.verify.now c.args.gate.now)) c.args.thread.id q i k.named c.requires.thread off
          (entered_own s c.args.thread.id q c.args.labels.now.label.now c.args.labels.now.clearance.now c.args.labels.now.verify.now c.args.gate.now off)
          (λ law. law.entered c.args.labels.now.label.now c.args.labels.now.clearance.now c.args.labels.now.verify.now c.args.gate.now)) c.remake_row.ensures.size c.remake_row.ensures.row c.remake_row.ensures.others;
      named = subst IsNamedRightly (sym c.enter.ensures.state) (entered_named s c.args.thread.id c.requires.gate.0 c.args.labels.now.label.now c.args.labels.now.clearance.now c.args.labels.now.verify.now c.args.gate.now c.requires.gate.1 k.named);
    }
