use Rattle.std.proofs.Common.{Bool, ap, sym, subst, ◌∙◌}
use Rattle.base.specs.declared.kinds.Kind.TheVariants as kinds
use Rattle.arena_state.specs.Shown.{AreKeptBut}
use Rattle.arena_state.specs.declared.rows.repairs.Change.{Change}
use Rattle.arena_state.specs.States.{state_of}
use Rattle.kernel_laws.specs.Names.{IsNamedRightly}
use Rattle.kernel_rules.specs.declared.calls.Entry.{Entry}
use Rattle.kernel_rules.specs.Changes.{changed, delisting, without}
use Rattle.kernel_laws.proofs.Names.{named_lists, named_rest}
use Rattle.kernel_store.specs.Sights.{is_of}
use Rattle.kernel_store.proofs.SightLaws.{kind_seen}
use Rattle.syscall_core.specs.Kernel.{IsUntouched, cut_touches}
use Rattle.syscall_core.proofs.RepairLaws.{unref_left}
use Rattle.syscall_core.proofs.UntouchedLaws.{cut_off, unref_kept}
use Rattle.syscall_core.proofs.stores.KeptStateStore.unref.Goals as goal

pub repair_cut-requires : goal.repair_cut-requires
repair_cut-requires c =
    let k = c.args.self.now in
    let e : Entry = record { container = c.args.container.id; object = c.args.object.id } in
    let found = ap (is_of kinds.Container) c.unref-kind.ensures.kind ∙ kind_seen (state_of k.state) kinds.Container e.object in
    subst (λ (w : Change). AreKeptBut c.unref-kind.new.self w 0 k.rows)
    (sym (ap (λ (v : Bool). cut_touches v e) (c.is_container-is_container.ensures ∙ found)))
    (unref_left k.state c.unref-kind.new.self k.rows e.container e.object k.kept c.unref-kind.ensures.slots c.unref-kind.ensures.state)

pub invariant_of-self : goal.invariant_of-self
invariant_of-self c =
    let k = c.args.self.now in
    let s = state_of k.state in
    record {
      kept = c.repair_cut.ensures.kept;
      named = subst IsNamedRightly (sym c.unref-kind.ensures.state) (named_rest (changed s c.args.container.id (delisting c.args.object.id)) (named_lists s c.args.container.id (without c.args.object.id) k.named));
    }

pub invariant_of-self-else-cut_may_touch : goal.invariant_of-self-else-cut_may_touch
invariant_of-self-else-cut_may_touch c =
    let k = c.args.self.now in
    let s = state_of k.state in
    let e : Entry = record { container = c.args.container.id; object = c.args.object.id } in
    let found = ap (is_of kinds.Container) c.unref-kind.ensures.kind ∙ kind_seen s kinds.Container e.object in
    record {
      kept = unref_kept k.state c.unref-kind.new.self k.rows e.container e.object k.kept c.unref-kind.ensures.slots c.unref-kind.ensures.state (subst (λ (v : Bool). IsUntouched s (cut_touches v e)) found (cut_off s e c.unref-kind.result c.may_map-is_mapped.result k.named c.unref-kind.ensures.kind c.may_map-is_mapped.ensures.none (sym c.cut_may_touch.ensures ∙ c.if-cut_may_touch.false)));
      named = subst IsNamedRightly (sym c.unref-kind.ensures.state) (named_rest (changed s c.args.container.id (delisting c.args.object.id)) (named_lists s c.args.container.id (without c.args.object.id) k.named));
    }
