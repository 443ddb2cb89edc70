use Rattle.std.proofs.Common.{sym, subst}
use Rattle.arena_state.specs.Restored.{IsHoldable}
use Rattle.kernel_laws.specs.Names.{IsNamedRightly}
use Rattle.syscall_core.proofs.checkpointing.copied.Goals as goal

pub laid_out-requires : goal.laid_out-requires
laid_out-requires c = record {
  holdable = subst IsHoldable (sym c.in_ok-records.ensures) c.requires.holdable;
  named = subst IsNamedRightly (sym c.in_ok-records.ensures) c.args.kept.now.named;
}
