use Rattle.std.proofs.Common.{refl, sym, subst}
use Rattle.arena_state.specs.States.{state_of}
use Rattle.kernel_laws.specs.Names.{IsNamedRightly}
use Rattle.kernel_rules.specs.Changes.{made_fixed}
use Rattle.kernel_laws.proofs.Bodies.{alike_fixed}
use Rattle.kernel_laws.proofs.Names.{named_alike}
use Rattle.syscall_core.proofs.RowLaws.{alike_rows_stay}
use Rattle.syscall_core.proofs.stores.KeptStateStore.set_fixed.Goals as goal

pub invariant_of-self : goal.invariant_of-self
invariant_of-self c =
    let k = c.args.self.now in
    let s = state_of k.state in
    record {
      kept = alike_rows_stay k.state c.set_fixed.new.self k.rows c.args.at.id (made_fixed) k.kept c.set_fixed.ensures.places c.set_fixed.ensures.state (alike_fixed);
      named = subst IsNamedRightly (sym c.set_fixed.ensures.state) (named_alike s c.args.at.id made_fixed k.named (λ x. refl) (λ x. refl) (λ x. refl));
    }
