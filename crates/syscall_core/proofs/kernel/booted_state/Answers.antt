use Rattle.std.proofs.Common.{◌≤◌, sym, subst}
use Rattle.kernel_rules.specs.State.{State}
use Rattle.kernel_laws.specs.Names.{IsNamedRightly}
use Rattle.kernel_laws.proofs.Boot.{booted_lem}
use Rattle.syscall_core.proofs.RowLaws.{few_pages}
use Rattle.syscall_core.proofs.kernel.booted_state.Goals as goal

pub invariant_of-result : goal.invariant_of-result
invariant_of-result c = record {
  kept = c.in_ok-rows.ensures;
  named = subst IsNamedRightly (sym c.in_ok-state.ensures) (booted_lem c.args.limits.now);
}

pub new_rows-requires : goal.new_rows-requires
new_rows-requires c =
    subst (λ (s : State). s.limits.pages ≤ 1024) (sym c.in_ok-state.ensures) (few_pages c.args.limits.now c.requires)
