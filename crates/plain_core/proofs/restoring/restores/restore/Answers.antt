use Rattle.std.proofs.Common.{◌≡◌, sym, subst, ◌∙◌, ap, is_some}
use Rattle.std.specs.Option.{IfSome}
use Rattle.kernel_rules.specs.State.{State}
use Rattle.kernel_rules.specs.WellFormed.{is_well_formed}
use Rattle.checkpoints.specs.Restored.{restored}
use Rattle.checkpoints.proofs.Parts.{well_formed}
use Rattle.plain_state.specs.Recorded.{records_state}
use Rattle.plain_state.specs.declared.records.Records.{Records}
use Rattle.plain_core.proofs.restoring.restores.restore.Goals as goal

pub of_records-requires : goal.of_records-requires
of_records-requires c =
    let same : records_state c.in-Ok-Some.records ≡ restored c.args.limits.now c.args.checkpoint.now
    = subst (λ o. IfSome o (λ (r : Records). records_state r ≡ restored c.args.limits.now c.args.checkpoint.now))
    c.in-Ok-Some.field-0-is c.in-Ok-Some.ensures.state in
    ap (λ (s : State). is_well_formed s) same
    ∙ well_formed c.args.limits.now c.args.checkpoint.now
    (sym c.in-Ok-Some.ensures.test ∙ ap is_some c.in-Ok-Some.field-0-is)
