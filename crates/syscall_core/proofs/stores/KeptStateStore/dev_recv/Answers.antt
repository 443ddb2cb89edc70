use Rattle.std.proofs.Common.{sym, subst, drop}
use Rattle.arena_state.specs.States.{state_of}
use Rattle.kernel_laws.specs.Names.{IsNamedRightly}
use Rattle.kernel_rules.specs.Changes.{with_body, requeue}
use Rattle.kernel_laws.proofs.Bodies.{alike_packets}
use Rattle.kernel_laws.proofs.Names.{named_packets}
use Rattle.syscall_core.proofs.RowLaws.{alike_rows_stay}
use Rattle.syscall_core.proofs.stores.KeptStateStore.dev_recv.Goals as goal

pub invariant_of-self : goal.invariant_of-self
invariant_of-self c =
    let k = c.args.self.now in
    let s = state_of k.state in
    record {
      kept = alike_rows_stay k.state c.dev_recv.new.self k.rows c.args.device.id (with_body (requeue (drop 1))) k.kept c.dev_recv.ensures.places c.dev_recv.ensures.state (alike_packets (drop 1));
      named = subst IsNamedRightly (sym c.dev_recv.ensures.state) (named_packets s c.args.device.id (drop 1) k.named);
    }
