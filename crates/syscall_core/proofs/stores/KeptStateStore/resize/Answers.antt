use Rattle.std.proofs.Common.{sym, subst, ◌*◌}
use Rattle.arena_state.specs.States.{state_of}
use Rattle.kernel_laws.specs.Names.{IsNamedRightly}
use Rattle.kernel_rules.specs.Written.{resized}
use Rattle.kernel_rules.specs.Changes.{with_body, rebyte}
use Rattle.kernel_laws.proofs.Bodies.{alike_bytes}
use Rattle.kernel_laws.proofs.Names.{named_bytes}
use Rattle.syscall_core.proofs.RowLaws.{alike_rows_stay}
use Rattle.syscall_core.proofs.stores.KeptStateStore.resize.Goals as goal

pub invariant_of-self : goal.invariant_of-self
invariant_of-self c =
    let k = c.args.self.now in
    let s = state_of k.state in
    record {
      kept = alike_rows_stay k.state c.resize.new.self k.rows c.args.segment.id (with_body (rebyte (resized (256 * c.args.pages)))) k.kept c.resize.ensures.places c.resize.ensures.state (alike_bytes (resized (256 * c.args.pages)));
      named = subst IsNamedRightly (sym c.resize.ensures.state) (named_bytes s c.args.segment.id (resized (256 * c.args.pages)) k.named);
    }
