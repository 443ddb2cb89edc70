use Rattle.std.proofs.Common.{◌≡◌, ◌&&◌, sym, subst, ◌∙◌, ap, is_some}
use Rattle.std.specs.Option.{IfSome}
use Rattle.kernel_rules.specs.State.{State}
use Rattle.kernel_rules.specs.WellFormed.{is_well_formed}
use Rattle.plain_state.specs.Recorded.{records_state}
use Rattle.plain_state.specs.declared.records.Records.{Records}
use Rattle.checkpoints.specs.Restored.{restored}
use Rattle.plain_core.specs.Holding.{holds}
use Rattle.plain_core.proofs.HoldingLaws.{unordered, unwritten, tested}
use Rattle.plain_core.proofs.restoring.restores.restored_records.Goals as goal

pub returns-then-not-is_written_rightly-clause-test : goal.returns-then-not-is_written_rightly-clause-test
returns-then-not-is_written_rightly-clause-test c =
    sym (unordered c.args.limits.now c.args.checkpoint.now
    (sym c.is_written_rightly.ensures ∙ c.if-not-is_written_rightly.true))

pub returns-in_default-clause-test : goal.returns-in_default-clause-test
returns-in_default-clause-test c =
    sym (unwritten c.args.limits.now c.args.checkpoint.now
    (sym c.in_ok-records.ensures.written ∙ ap is_some c.in_default.is))

pub returns-then-branch-clause-test : goal.returns-then-branch-clause-test
returns-then-branch-clause-test c =
    let same : records_state c.in-Some.records ≡ restored c.args.limits.now c.args.checkpoint.now
    = subst (λ o. IfSome o (λ (r : Records). records_state r ≡ restored c.args.limits.now c.args.checkpoint.now))
    c.in-Some.is c.in_ok-records.ensures.state in
    sym c.if-branch.true ∙ c.in_ok-are_restorable.ensures
    ∙ ap (λ (s : State). is_well_formed s && holds s) same
    ∙ tested c.args.limits.now c.args.checkpoint.now
    (sym c.is_written_rightly.ensures ∙ c.if-not-is_written_rightly.false)

pub returns-else-branch-clause-test : goal.returns-else-branch-clause-test
returns-else-branch-clause-test c =
    let same : records_state c.in-Some.records ≡ restored c.args.limits.now c.args.checkpoint.now
    = subst (λ o. IfSome o (λ (r : Records). records_state r ≡ restored c.args.limits.now c.args.checkpoint.now))
    c.in-Some.is c.in_ok-records.ensures.state in
    sym c.if-branch.false ∙ c.in_ok-are_restorable.ensures
    ∙ ap (λ (s : State). is_well_formed s && holds s) same
    ∙ tested c.args.limits.now c.args.checkpoint.now
    (sym c.is_written_rightly.ensures ∙ c.if-not-is_written_rightly.false)
