use Rattle.std.proofs.Common.{refl, sym, subst}
use Rattle.arena_state.specs.States.{state_of}
use Rattle.kernel_laws.specs.Names.{IsNamedRightly}
use Rattle.kernel_rules.specs.Changes.{requoted}
use Rattle.kernel_laws.proofs.Bodies.{alike_quota}
use Rattle.kernel_laws.proofs.Names.{named_alike}
use Rattle.syscall_core.proofs.RowLaws.{alike_rows_stay}
use Rattle.syscall_core.proofs.stores.KeptStateStore.quota_move.Goals as goal

pub invariant_of-self : goal.invariant_of-self
invariant_of-self c =
    let k = c.args.self.now in
    let s = state_of k.state in
    record {
      kept = alike_rows_stay k.state c.quota_move.new.self k.rows c.args.object.id (requoted c.args.up c.args.down) k.kept c.quota_move.ensures.places c.quota_move.ensures.state (alike_quota c.args.up c.args.down);
      named = subst IsNamedRightly (sym c.quota_move.ensures.state) (named_alike s c.args.object.id (requoted c.args.up c.args.down) k.named (λ x. refl) (λ x. refl) (λ x. refl));
    }
