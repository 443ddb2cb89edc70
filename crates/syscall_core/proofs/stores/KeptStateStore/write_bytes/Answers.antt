use Rattle.std.proofs.Common.{sym, subst}
use Rattle.arena_state.specs.States.{state_of}
use Rattle.kernel_laws.specs.Names.{IsNamedRightly}
use Rattle.kernel_rules.specs.Written.{written}
use Rattle.kernel_rules.specs.Changes.{with_body, rebyte}
use Rattle.kernel_laws.proofs.Bodies.{alike_bytes}
use Rattle.kernel_laws.proofs.Names.{named_bytes}
use Rattle.syscall_core.proofs.RowLaws.{alike_rows_stay}
use Rattle.syscall_core.proofs.stores.KeptStateStore.write_bytes.Goals as goal

pub invariant_of-self : goal.invariant_of-self
invariant_of-self c =
    let k = c.args.self.now in
    let s = state_of k.state in
    record {
      kept = alike_rows_stay k.state c.write_bytes.new.self k.rows c.args.segment.id (with_body (rebyte (written c.args.at c.args.given.now))) k.kept c.write_bytes.ensures.places c.write_bytes.ensures.state (alike_bytes (written c.args.at c.args.given.now));
      named = subst IsNamedRightly (sym c.write_bytes.ensures.state) (named_bytes s c.args.segment.id (written c.args.at c.args.given.now) k.named);
    }
