use Rattle.std.proofs.Common.{refl, sym, subst}
use Rattle.arena_state.specs.States.{state_of}
use Rattle.kernel_laws.specs.Names.{IsNamedRightly}
use Rattle.kernel_rules.specs.Changes.{made_immutable}
use Rattle.kernel_laws.proofs.Names.{named_alike}
use Rattle.syscall_core.proofs.RepairLaws.{all_slots, immutable_left}
use Rattle.syscall_core.proofs.UntouchedLaws.{immutable_kept}
use Rattle.syscall_core.proofs.stores.KeptStateStore.set_immutable.Goals as goal

pub repair-requires : goal.repair-requires
repair-requires c =
    immutable_left c.args.self.now.state c.set_immutable.new.self c.args.self.now.rows c.args.at.id
    c.args.self.now.kept (all_slots c.args.self.now.state c.set_immutable.new.self c.set_immutable.ensures.places)
    c.set_immutable.ensures.state

pub invariant_of-self : goal.invariant_of-self
invariant_of-self c =
    let k = c.args.self.now in
    let s = state_of k.state in
    record {
      kept = c.repair.ensures.kept;
      named = subst IsNamedRightly (sym c.set_immutable.ensures.state) (named_alike s c.args.at.id made_immutable k.named (λ x. refl) (λ x. refl) (λ x. refl));
    }

pub invariant_of-self-else-may_map : goal.invariant_of-self-else-may_map
invariant_of-self-else-may_map c =
    let k = c.args.self.now in
    let s = state_of k.state in
    record {
      kept = immutable_kept k.state c.set_immutable.new.self k.rows c.args.at.id k.kept (all_slots k.state c.set_immutable.new.self c.set_immutable.ensures.places) c.set_immutable.ensures.state (c.may_map.ensures.none c.if-may_map.false);
      named = subst IsNamedRightly (sym c.set_immutable.ensures.state) (named_alike s c.args.at.id made_immutable k.named (λ x. refl) (λ x. refl) (λ x. refl));
    }
