use Rattle.std.proofs.Common.{◌≤◌, sym, subst}
use Rattle.kernel_rules.specs.State.{State}
use Rattle.plain_state.specs.Recorded.{records_state}
use Rattle.kernel_laws.specs.Names.{IsNamedRightly}
use Rattle.syscall_core.proofs.RowLaws.{few_pages}
use Rattle.syscall_core.proofs.restores.laid_out.Goals as goal

pub invariant_of-result : goal.invariant_of-result
invariant_of-result c = record {
  kept = c.in_ok-rows.ensures;
  named = subst IsNamedRightly (sym c.in_ok-state.ensures) c.requires.named;
}

pub new_rows-requires : goal.new_rows-requires
new_rows-requires c =
    subst (λ (s : State). s.limits.pages ≤ 1024) (sym c.in_ok-state.ensures)
    (few_pages (records_state c.args.records.now).limits c.requires.holdable.range)

pub of_records-requires : goal.of_records-requires
of_records-requires c = c.requires.holdable
