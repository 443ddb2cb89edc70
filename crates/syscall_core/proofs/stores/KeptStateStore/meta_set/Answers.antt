use Rattle.std.proofs.Common.{refl, sym, subst}
use Rattle.arena_state.specs.States.{state_of}
use Rattle.kernel_laws.specs.Names.{IsNamedRightly}
use Rattle.kernel_rules.specs.Changes.{noted}
use Rattle.kernel_laws.proofs.Bodies.{alike_noted}
use Rattle.kernel_laws.proofs.Names.{named_alike}
use Rattle.syscall_core.proofs.RowLaws.{alike_rows_stay}
use Rattle.syscall_core.proofs.stores.KeptStateStore.meta_set.Goals as goal

pub invariant_of-self : goal.invariant_of-self
invariant_of-self c =
    let k = c.args.self.now in
    let s = state_of k.state in
    record {
      kept = alike_rows_stay k.state c.meta_set.new.self k.rows c.args.at.id (noted c.args.given.now) k.kept c.meta_set.ensures.places c.meta_set.ensures.state (alike_noted c.args.given.now);
      named = subst IsNamedRightly (sym c.meta_set.ensures.state) (named_alike s c.args.at.id (noted c.args.given.now) k.named (λ x. refl) (λ x. refl) (λ x. refl));
    }
