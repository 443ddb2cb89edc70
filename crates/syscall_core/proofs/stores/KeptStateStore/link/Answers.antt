use Rattle.std.proofs.Common.{sym, subst, ◌∙◌, ◌++◌, ◌∷◌, []}
use Rattle.arena_state.specs.States.{state_of}
use Rattle.kernel_laws.specs.Names.{IsNamedRightly}
use Rattle.kernel_laws.proofs.Names.{named_lists}
use Rattle.syscall_core.proofs.RepairLaws.{link_left}
use Rattle.syscall_core.proofs.UntouchedLaws.{entry_off, link_kept}
use Rattle.syscall_core.proofs.stores.KeptStateStore.link.Goals as goal

pub repair_entry-requires : goal.repair_entry-requires
repair_entry-requires c =
    link_left c.args.self.now.state c.link-kind.new.self c.args.self.now.rows c.args.target.id c.args.object.id
    c.args.self.now.kept c.link-kind.ensures.slots c.link-kind.ensures.state

pub invariant_of-self : goal.invariant_of-self
invariant_of-self c =
    let k = c.args.self.now in
    let s = state_of k.state in
    record {
      kept = c.repair_entry.ensures.kept;
      named = subst IsNamedRightly (sym c.link-kind.ensures.state) (named_lists s c.args.target.id (λ ids. ids ++ c.args.object.id ∷ []) k.named);
    }

pub invariant_of-self-else-may_touch : goal.invariant_of-self-else-may_touch
invariant_of-self-else-may_touch c =
    let k = c.args.self.now in
    let s = state_of k.state in
    record {
      kept = link_kept k.state c.link-kind.new.self k.rows c.args.target.id c.args.object.id k.kept c.link-kind.ensures.slots c.link-kind.ensures.state (entry_off s (record { container = c.args.target.id; object = c.args.object.id }) c.link-kind.result c.may_map-is_mapped.result k.named c.link-kind.ensures.kind c.may_map-is_mapped.ensures.none (sym c.may_touch.ensures ∙ c.if-may_touch.false));
      named = subst IsNamedRightly (sym c.link-kind.ensures.state) (named_lists s c.args.target.id (λ ids. ids ++ c.args.object.id ∷ []) k.named);
    }
